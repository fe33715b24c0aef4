-- Which attachments of one volume cannot exist at two nodes, over rows of attachments: number, node, cap and
-- readonly.
use Rattle.std.specs.Prelude.{◌≡◌, int_lt, Bool, true, false, ◌&&◌, ◌||◌, not, if◌then◌else◌, List, [], ◌∷◌, ◌++◌, Option, None, Some}
use Rattle.std.specs.List.{AllByRecursion, list_any}
use Rattle.std.specs.Option.{option_map}
use Rattle.std.specs.Ordering.{int_eq}
use Rattle.sqlite.specs.Order.{Row, column}
use Rattle.sqlite.specs.Tree.{IsAscending}
use Rattle.sqlite_rules.specs.Lists.{Has}
use Rattle.csi_keeper.specs.Coexistence.{coexist}
use Rattle.csi_keeper.specs.declared.volume.Attachment.{Attachment}
use Rattle.csi_constraints.specs.Folds.{as_integer}
use Rattle.csi_constraints.specs.Joins.{attached_at}
use Rattle.csi_constraints.specs.Named.{name_of}
use Rattle.csi_constraints.specs.Values.{are_some_and, is_some_and}
use Rattle.csi_constraints.specs.declared.apart.LastAttachment.{LastAttachment}
use Rattle.csi_constraints.specs.declared.named.RowName.{RowName}

-- ---- the constraint

-- two rows are of one volume: they have the same integer as their number
abbrev pub are_of_one : Row → Row → Bool
are_of_one a b = are_some_and int_eq (as_integer (column a 0)) (as_integer (column b 0))

-- there are two attachments, and they can exist at two nodes
abbrev pub can_coexist : Option Attachment → Option Attachment → Bool
can_coexist a b = are_some_and coexist a b

-- two rows are of one volume, and cannot exist at two nodes
abbrev pub are_apart : Row → Row → Bool
are_apart a b = are_of_one a b && not (can_coexist (attached_at 2 3 a) (attached_at 2 3 b))

-- no two rows are apart
abbrev pub NoneApart : List Row → Type 0
NoneApart rows = IsAscending (λ a b. are_apart a b ≡ false) rows

-- the first of the rows that is apart from a row before it; `earlier` are the rows before all of them
abbrev pub first_apart : List Row → List Row → Option Row
first_apart earlier [] = None
first_apart earlier (r ∷ rows) = if list_any (λ e. are_apart e r) earlier then Some r else first_apart (earlier ++ r ∷ []) rows

-- the name of this row: its number and its node
abbrev pub apart_named : List Row → Option RowName
apart_named rows = option_map (name_of 0 1) (first_apart [] rows)

-- ---- a row that represents all attachments of its volume

-- the number of the later row is below the number of the earlier row
abbrev pub falls : Row → Row → Bool
falls a b = are_some_and (λ m n. int_lt n m) (as_integer (column a 0)) (as_integer (column b 0))

-- the numbers do not fall, so the rows of one volume are adjacent
abbrev pub DoNotFall : List Row → Type 0
DoNotFall rows = IsAscending (λ a b. falls a b ≡ false) rows

-- the attachment of a row that has a number
abbrev pub last_attachment_at : Row → Option LastAttachment
last_attachment_at r = option_map (λ n. record { number = n; attachment = attached_at 2 3 r }) (as_integer (column r 0))

-- the next attachment can coexist with all attachments of its volume so far
abbrev pub admits : Option LastAttachment → LastAttachment → Bool
admits None next = true
admits (Some led) next = not (int_eq led.number next.number) || can_coexist led.attachment next.attachment

abbrev pub is_written : Option Attachment → Bool
is_written a = is_some_and (λ x. not x.readonly) a

-- the last attachment represents the next row too: both are of the same volume, and it is written
abbrev pub covers : Option LastAttachment → LastAttachment → Bool
covers None next = false
covers (Some led) next = int_eq led.number next.number && is_written led.attachment

-- any attachment that can coexist with `a` can coexist with `b`
abbrev pub Leads : Option Attachment → Option Attachment → Type 0
Leads a b = (c : Option Attachment) → can_coexist a c ≡ true → can_coexist b c ≡ true

-- the attachment is in one of the rows, belongs to the last volume of the rows, and represents each row of
-- this volume
pub record IsLed (led : LastAttachment) (rows : List Row) : Type 0 where
  pub last : AllByRecursion (λ r. is_some_and (int_lt led.number) (as_integer (column r 0)) ≡ false) rows
  pub leads : AllByRecursion (λ r. as_integer (column r 0) ≡ Some led.number → Leads led.attachment (attached_at 2 3 r)) rows
  pub row : Row
  pub has : Has rows row
  pub of : as_integer (column row 0) ≡ Some led.number
  pub is : attached_at 2 3 row ≡ led.attachment

-- as `IsLed`; the attachment is absent only if no row has a number
abbrev pub AreCovered : Option LastAttachment → List Row → Type 0
AreCovered None rows = AllByRecursion (λ r. as_integer (column r 0) ≡ None) rows
AreCovered (Some led) rows = IsLed led rows
