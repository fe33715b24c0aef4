-- The scans, and their texts.
use Rattle.std.specs.Prelude.{codes, List, ℕ}

pub data Scan : Type 0 where
  Meta : Scan
  Volumes : Scan
  Attachments : Scan
  Places : Scan
  Owners : Scan

abbrev pub text : Scan → List ℕ
text Meta = codes "SELECT k, format_no, next_number FROM meta"
text Volumes = codes "SELECT number, name, bytes, pool, caps, params FROM volumes ORDER BY number"
text Attachments = codes "SELECT rowid, number, node, cap, readonly FROM attachments ORDER BY rowid"
text Places = codes "SELECT number, node, cap, readonly FROM attachments ORDER BY number"
text Owners = codes "SELECT a.number, a.node, a.cap, a.readonly, v.caps FROM attachments AS a LEFT JOIN volumes AS v ON v.number = a.number ORDER BY a.number"
