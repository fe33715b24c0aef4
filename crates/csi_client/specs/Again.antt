-- A call that is sent again until it is answered.
use Rattle.std.specs.Prelude.{ℕ, zero, suc, ◌≡◌, ◌<◌, ◌+◌, ◌-◌, ◌*◌, ◌/◌, ◌%◌, ◌^◌, Bool, true, false, not, min, List}
use Rattle.envelope.specs.declared.reply_fault.ReplyWhy.{ReplyWhy}
use Rattle.envelope.specs.declared.reply_fault.ReplyWhy.TheVariants as why
use Rattle.csi_client.specs.declared.receiving.Received.{Received}
use Rattle.csi_client.specs.declared.receiving.Received.TheVariants.{Reply, Nothing, Malformed, Failed, NoMemory}

-- true if the bytes of a reply ended before it was whole
abbrev pub is_end : ReplyWhy → Bool
is_end why.BadStatus = false
is_end why.BadTextLength = false
is_end why.BadText = false
is_end why.BadFlag = false
is_end why.BadBodyLength = false
is_end why.EndOfInput = true

-- An exchange in doubt: the connection failed, or ended before its reply was whole, so the server may have
-- taken the call.
abbrev pub is_unanswered : Received → Bool
is_unanswered (Reply r) = false
is_unanswered Nothing = true
is_unanswered (Malformed f) = is_end f.why
is_unanswered Failed = true
is_unanswered NoMemory = false

abbrev pub one_if : Bool → ℕ
one_if true = 1
one_if false = 0

-- 1 for an unanswered exchange, and 1 for an answered one
abbrev pub unanswered_count : Received → ℕ
unanswered_count r = one_if (is_unanswered r)

abbrev pub answered_count : Received → ℕ
answered_count r = one_if (not (is_unanswered r))

-- `n` exchanges with the frame were made, in order, and each was unanswered.
abbrev pub AreUnanswered : {L : Type 0} → (L → L → List ℕ → Received → Type 0) → L → L → List ℕ → ℕ → Type 0
AreUnanswered exchanged first now frame zero = now ≡ first
AreUnanswered {L} exchanged first now frame (suc n) =
    (before : L) × (received : Received) × AreUnanswered exchanged first before frame n × exchanged before now frame received × (is_unanswered received ≡ true)

-- The frame is sent at most `tries` times, and all exchanges but the last are unanswered. The result of the
-- last exchange is the outcome; it is unanswered only if all tries were used.
pub record IsSentAgain {L : Type 0} (exchanged : L → L → List ℕ → Received
    → Type 0) (first now : L) (frame : List ℕ) (tries : ℕ) (outcome : Received) : Type 0 where
  pub earlier : ℕ
  pub few : earlier < tries
  pub before : L
  pub unanswered : AreUnanswered exchanged first before frame earlier
  pub last : exchanged before now frame outcome
  pub given_up : is_unanswered outcome ≡ true → earlier + 1 ≡ tries

-- the longest pause before a further try, in milliseconds: twice as long after each try, up to 2 s
abbrev pub longest_pause : ℕ → ℕ
longest_pause tried = min (100 * 2 ^ (tried - 1)) 2000

-- A pause before a further try, in milliseconds: half of the longest pause, and a random part of the other
-- half.
abbrev pub pause : ℕ → ℕ → ℕ
pause tried chance = longest_pause tried / 2 + chance % (longest_pause tried / 2 + 1)
