-- A call goes on, step by step.
use Rattle.std.proofs.Common.{◌≡◌, ◌∙◌, refl, sym, subst, true, false}
use Rattle.csid_connections.specs.Calling.{GoesOnCall, GoesOnSince, is_never, waited}
use Rattle.csid_connections.specs.declared.clock.CallClock.{CallClock}
use Rattle.csid_connections.specs.declared.clock.Since.{Since}
use Rattle.csid_connections.specs.declared.clock.Since.TheVariants.{Never, Now, Then}
use Rattle.std.specs.declared.time.Instant.{Instant}

pub same_since : (s : Since) → GoesOnSince s s
same_since Never = refl
same_since Now = refl
same_since (Then begun) = refl

then_since : (a b c : Since) → GoesOnSince a b → GoesOnSince b c → GoesOnSince a c
then_since Never b c g h = subst (λ s. GoesOnSince s c) g h
then_since Now Never c g h = absurd (let no : true ≡ false = g in cc)
then_since Now Now c g h = h
then_since Now (Then begun) c g h = subst (λ s. is_never s ≡ false) (sym h) refl
then_since (Then begun) b c g h = subst (λ s. GoesOnSince s c) g h

pub goes_on : (a b c : CallClock) → GoesOnCall a b → GoesOnCall b c → GoesOnCall a c
goes_on a b c g h = record {
  begun = then_since a.begun b.begun c.begun g.begun h.begun;
  allowed = h.allowed ∙ g.allowed;
  reply = h.reply ∙ g.reply;
}

pub same_call : (a : CallClock) → GoesOnCall a a
same_call a = record { begun = same_since a.begun; allowed = refl; reply = refl }

pub waits_on : (now : Instant) (s : Since) → GoesOnSince s (waited now s)
waits_on now Never = refl
waits_on now Now = refl
waits_on now (Then begun) = refl
