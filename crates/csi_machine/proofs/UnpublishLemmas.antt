-- The removal of attachments is allowed, and the rest keeps the invariant.
use Rattle.std.proofs.Common.{◌≡◌, ◌∙◌, ap, sym, subst, cond, arith, ℕ, ◌≤◌, ◌==◌, List, [], ◌∷◌, length, filter, find, Bool, true, false, not, Option, Some, None}
use Rattle.std.specs.FinMap as fin
use Rattle.std.proofs.lemmas.List.{length-map}
use Rattle.csi_types.specs.Maps.{same_text}
use Rattle.csi_types.specs.Names.{is_empty}
use Rattle.csi_types.specs.declared.requests.Unpublish.{Unpublish}
use Rattle.csi_config.specs.declared.config.Config.{Config}
use Rattle.csi_keeper.specs.declared.change.Change.{Change}
use Rattle.csi_keeper.specs.declared.change.Change.TheVariants.{Detach, DetachAll}
use Rattle.csi_keeper.specs.declared.volume.Attachment.{Attachment}
use Rattle.csi_rules.specs.Ids.{number_of_id}
use Rattle.csi_keeper.specs.Invariant.{IsInvariant}
use Rattle.csi_keeper.specs.State.{State, AttachmentKey, attachment_key_cmp, attached, changed, Allows}
use Rattle.csi_keeper.specs.Texts.{Text}
use Rattle.csi_machine.specs.calls.Publish.{is_at}
use Rattle.csi_machine.specs.calls.Unpublish.{unpublish, unpublish_number, detach_all, detach_one}
use Rattle.csi_machine.proofs.EntriesLemmas.{length_both}
use Rattle.csi_keeper.specs.facts.Finite.{entries_left, entries_retained, none_some, same_some, removed}
use Rattle.csi_keeper.specs.facts.Orders.{place_total, place_exact}
use Rattle.csi_machine.proofs.PublishLemmas.{moved_on}

abbrev Row : Type 0
Row = AttachmentKey × Attachment

-- fewer attachments
less_keeps : (config : Config) (s : State) (m : fin.FinMap attachment_key_cmp Attachment) → IsInvariant config s → ((q : AttachmentKey) (a : Attachment) → fin.get m q ≡ Some a → fin.get s.attachments q ≡ Some a)
    → ((p : Row → Bool) → length (filter p (fin.entries m)) ≤ length (filter p (fin.entries s.attachments))) → IsInvariant config (record s { attachments = m })
less_keeps config s m inv old fewer_rows = record {
  next = inv.next;
  volumes = inv.volumes;
  names = inv.names;
  rooms = inv.rooms;
  few = inv.few;
  attachments = λ n node a e. moved_on config s m n node a (inv.attachments n node a (old (n, node) a e));
  beside = λ n d e a b p q far. inv.beside n d e a b (old (n, d) a p) (old (n, e) b q) far;
  nodes = λ k has.
      let a = length-map (filter (λ (e : Row). same_text e.0.1 k.id) (fin.entries m)) (λ e. e.0.0) in
      let b = length-map (filter (λ (e : Row). same_text e.0.1 k.id) (fin.entries s.attachments)) (λ e. e.0.0) in
      let d = fewer_rows (λ (e : Row). same_text e.0.1 k.id) in
      let most = inv.nodes k has in
      omega (arith, a, b, d, most);
}

detach_keeps : (config : Config) (s : State) (n : ℕ) (node : Text) → IsInvariant config s → IsInvariant config (changed s (Detach n node))
detach_keeps config s n node inv = less_keeps config s (fin.remove s.attachments (n, node)) inv
    (λ q a e. (removed place_total place_exact s.attachments (n, node) q a e).1)
    (λ p. subst (λ (es : List Row). length (filter p es) ≤ length (filter p (fin.entries s.attachments))) (sym (entries_left place_total place_exact s.attachments (n, node))) (length_both p _ (fin.entries s.attachments)))

retained : (m : fin.FinMap attachment_key_cmp Attachment) (keep : AttachmentKey → Bool) (q : AttachmentKey) (a : Attachment) → fin.get (fin.retain_keys m keep) q ≡ Some a → fin.get m q ≡ Some a
retained m keep q a e = go (keep q) (sym (fin.get-retain_keys m keep q (λ x t. sym (ap keep (place_exact q x t)))) ∙ e)
  where
    go : (b : Bool) → cond b (fin.get m q) None ≡ Some a → fin.get m q ≡ Some a
    go true h = h
    go false h = absurd (none_some a h)

detach_all_keeps : (config : Config) (s : State) (n : ℕ) → IsInvariant config s → IsInvariant config (changed s (DetachAll n))
detach_all_keeps config s n inv =
    let keep : AttachmentKey → Bool = λ p. not (p.0 == n) in
    less_keeps config s (fin.retain_keys s.attachments keep) inv
    (λ q a e. retained s.attachments keep q a e)
    (λ p. subst (λ (es : List Row). length (filter p es) ≤ length (filter p (fin.entries s.attachments))) (sym (entries_retained place_total place_exact s.attachments keep)) (length_both p _ (fin.entries s.attachments)))

abbrev IsFit : Config → State → Change → Type 0
IsFit config s c = Allows s c × IsInvariant config (changed s c)

-- an unpublish is allowed, and keeps the invariant
pub unpublish_fits : (config : Config) (r : Unpublish) (s : State) (c : Change) → IsInvariant config s → (unpublish s r).change ≡ Some c → IsFit config s c
unpublish_fits config r s c inv e = by_number (number_of_id r.volume_id) e
  where
    all_of : (n : ℕ) (rows : List Attachment) → (detach_all n rows).change ≡ Some c → IsFit config s c
    all_of n [] h = absurd (none_some c h)
    all_of n (a ∷ rows) h = subst (IsFit config s) (same_some _ _ h) (tt, detach_all_keeps config s n inv)

    one_of : (n : ℕ) (o : Option Attachment) → (detach_one n r.node_id o).change ≡ Some c → IsFit config s c
    one_of n None h = absurd (none_some c h)
    one_of n (Some a) h = subst (IsFit config s) (same_some _ _ h) (tt, detach_keeps config s n r.node_id inv)

    by_node : (n : ℕ) (b : Bool) → (cond b (detach_all n (attached s n)) (detach_one n r.node_id (find (is_at r.node_id) (attached s n)))).change ≡ Some c → IsFit config s c
    by_node n true h = all_of n (attached s n) h
    by_node n false h = one_of n (find (is_at r.node_id) (attached s n)) h

    by_number : (o : Option ℕ) → (unpublish_number s r.node_id o).change ≡ Some c → IsFit config s c
    by_number None h = absurd (none_some c h)
    by_number (Some n) h = by_node n (is_empty r.node_id) h
