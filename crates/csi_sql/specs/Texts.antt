-- The statements that change the tables, and their texts.
use Rattle.std.specs.Prelude.{codes, List, ℕ}

pub data Write : Type 0 where
  AddVolume : Write
  SetNext : Write
  SetFormat : Write
  SetParams : Write
  RemoveVolume : Write
  Attach : Write
  Detach : Write
  DetachAll : Write

-- the text, and the number of its parameters
abbrev pub asks : Write → List ℕ × ℕ
asks AddVolume = (codes "INSERT INTO volumes (number, name, bytes, pool, caps, params) VALUES (?1, ?2, ?3, ?4, ?5, ?6)", 6)
asks SetNext = (codes "UPDATE meta SET next_number = ?1", 1)
asks SetFormat = (codes "UPDATE meta SET format_no = 2", 0)
asks SetParams = (codes "UPDATE volumes SET params = ?2 WHERE number = ?1", 2)
asks RemoveVolume = (codes "DELETE FROM volumes WHERE number = ?1", 1)
asks Attach = (codes "INSERT INTO attachments (number, node, cap, readonly) VALUES (?1, ?2, ?3, ?4)", 4)
asks Detach = (codes "DELETE FROM attachments WHERE number = ?1 AND node = ?2", 2)
asks DetachAll = (codes "DELETE FROM attachments WHERE number = ?1", 1)

abbrev pub text : Write → List ℕ
text w = (asks w).0

abbrev pub arity : Write → ℕ
arity w = (asks w).1
