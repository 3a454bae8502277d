-- From how a call of the program ends to how its wish does.
use Rattle.std.proofs.Common.{◌≡◌, ℕ, ◌⊎◌, List, [], Option, inl, inr, refl, ap, subst, arith}
use Rattle.clap.specs.Words.{Text}
use Rattle.cr_words.specs.Readings.{ReadsAs, IsAccepted, IsWordsFaultOf}
use Rattle.cr_words.specs.declared.fault.WordsFault.{WordsFault}
use Rattle.cr_words.specs.declared.wish.Wish.{Wish}
use Rattle.cr_words.specs.declared.wish.Mode.{Mode}
use Rattle.cr_words.specs.declared.wish.Mode.TheVariants as mode
use Rattle.cr_top.specs.declared.status.Status.{Status}
use Rattle.cr_top.specs.declared.status.Status.TheVariants as ended
use Rattle.cr_top.specs.Streams.{Reading, Writing}
use Rattle.cr_top.specs.Endings.{AsksSearch, AsksMake, AsksTrail, AsksLast, AsksCut, AsksJoin, AsksLog, AsksAudit, EndsSearch, EndsMake, EndsTrail, EndsLast, EndsCut, EndsJoin, EndsLog, EndsAudit, EndsWish, Ends}

module _ {S K : Type 0} (source : Reading S) (sink : Writing K) where
  -- a call that did nothing ends for want of memory as any wish may
  unbegun : source.took source.old source.new [] → sink.grew sink.old sink.new [] → source.new ≡ source.old → sink.new ≡ sink.old
      → (wished : Mode) (turns : Option ℕ) → EndsWish source sink wished turns ended.NoMemory
  unbegun none nothing unread unwritten mode.Search turns = ((([], none, omega arith), ap source.faults unread), unwritten)
  unbegun none nothing unread unwritten (mode.Make number) turns = (unread, unwritten)
  unbegun none nothing unread unwritten (mode.Trail every) turns =
      inl ((([], none, omega arith), ap source.faults unread), record { grew = nothing; calm = ap sink.faults unwritten })
  unbegun none nothing unread unwritten mode.Last turns = ((([], none, omega arith), ap source.faults unread), unwritten)
  unbegun none nothing unread unwritten (mode.Cut into) turns = ((([], none, omega arith), ap source.faults unread), unwritten)
  unbegun none nothing unread unwritten mode.Join turns = ((([], none, omega arith), ap source.faults unread), unwritten)
  unbegun none nothing unread unwritten mode.Log turns = ((([], none, omega arith), ap source.faults unread), unwritten)
  unbegun none nothing unread unwritten mode.Audit turns = ((([], none, omega arith), ap source.faults unread), unwritten)

  -- where there was no memory for the words
  pub without_memory : source.took source.old source.new [] → sink.grew sink.old sink.new [] → source.new ≡ source.old → sink.new ≡ sink.old → (words : List Text)
      → (((wish : Wish) × IsAccepted words wish) ⊎ ((fault : WordsFault) × IsWordsFaultOf words fault))
      → Ends source sink words ended.NoMemory
  without_memory none nothing unread unwritten words (inl is) = inl (is.0, is.1, unbegun none nothing unread unwritten is.0.mode is.0.turns)
  without_memory none nothing unread unwritten words (inr is) =
      inr (record { fault = is.0; is = is.1; tells = inr refl; unread = unread; unwritten = unwritten })

  -- words read as one wish, and have no fault where they are accepted
  module _ (one_wish : (words : List Text) (one other : Wish) → ReadsAs words one → ReadsAs words other → one ≡ other)
      (apart : (words : List Text) (wish : Wish) (fault : WordsFault) → IsAccepted words wish → IsWordsFaultOf words fault → ⊥)
      (words : List Text) (status : Status) where
    as_wish : (wish : Wish) → IsAccepted words wish → Ends source sink words status → EndsWish source sink wish.mode wish.turns status
    as_wish wish accepted (inl ends) =
        subst (λ (w : Wish). EndsWish source sink w.mode w.turns status) (one_wish words ends.0 wish ends.1.1 accepted.1) ends.2
    as_wish wish accepted (inr away) = absurd (apart words wish away.fault accepted away.is)

    -- a call whose words wish for a search ends as one
    pub as_search : (turns : Option ℕ) → AsksSearch words turns → Ends source sink words status → EndsSearch source sink turns status
    as_search turns asks ends = as_wish _ asks.1 ends

    -- a call whose words wish for a made problem ends so
    pub as_make : (number : ℕ) → AsksMake words number → Ends source sink words status → EndsMake sink number status
    as_make number asks ends = (as_wish _ asks.2 ends).1

    -- a call whose words wish for a trail ends so
    pub as_trail : (every : ℕ) → AsksTrail words every → Ends source sink words status → EndsTrail source sink every status
    as_trail every asks ends = as_wish _ asks.2 ends

    -- a call whose words wish for the last checkpoint of one ends so
    pub as_last : AsksLast words → Ends source sink words status → EndsLast source sink status
    as_last asks ends = as_wish _ asks.2 ends

    -- a call whose words wish to cut an input ends so
    pub as_cut : (into : ℕ) → AsksCut words into → Ends source sink words status → EndsCut source sink into status
    as_cut into asks ends = as_wish _ asks.2 ends

    -- a call whose words wish to join shards ends so
    pub as_join : AsksJoin words → Ends source sink words status → EndsJoin source sink status
    as_join asks ends = as_wish _ asks.2 ends

    -- a call whose words wish for a log ends so
    pub as_log : AsksLog words → Ends source sink words status → EndsLog source sink status
    as_log asks ends = as_wish _ asks.2 ends

    -- a call whose words wish for an audit ends so
    pub as_audit : AsksAudit words → Ends source sink words status → EndsAudit source sink status
    as_audit asks ends = as_wish _ asks.2 ends

  -- words that have a fault end with it, or there was not enough memory
  pub refused : (apart : (words : List Text) (wish : Wish) (fault : WordsFault) → IsAccepted words wish → IsWordsFaultOf words fault → ⊥)
      → (one : (words : List Text) (fault other : WordsFault) → IsWordsFaultOf words fault → IsWordsFaultOf words other → fault ≡ other)
      → (words : List Text) (fault : WordsFault) → IsWordsFaultOf words fault → (status : Status) → Ends source sink words status
      → (status ≡ ended.Words fault) ⊎ (status ≡ ended.NoMemory)
  refused apart one words fault is status (inl ends) = absurd (apart words ends.0 fault ends.1 is)
  refused apart one words fault is status (inr away) =
      subst (λ f. (status ≡ ended.Words f) ⊎ (status ≡ ended.NoMemory)) (one words away.fault fault away.is is) away.tells
