-- Values that may be absent.
use Rattle.std.specs.Prelude.{Bool, false, Option, Some, None, if◌then◌else◌}

-- there is a value, and it passes a test
abbrev pub is_some_and : {A : Type 0} → (A → Bool) → Option A → Bool
is_some_and test (Some a) = test a
is_some_and test None = false

-- there are two values, and they pass a test
abbrev pub are_some_and : {A B : Type 0} → (A → B → Bool) → Option A → Option B → Bool
are_some_and test a b = is_some_and (λ x. is_some_and (test x) b) a

-- the value, if it passes a test
abbrev pub if_passes : {A : Type 0} → (A → Bool) → Option A → Option A
if_passes test None = None
if_passes test (Some a) = if test a then Some a else None
