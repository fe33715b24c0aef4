-- The method of a path.
use Rattle.std.proofs.Common.{◌≡◌, ℕ, Bool, true, false, cond, List, [], ◌∷◌, Option, Some, None, refl, sym, ap, ◌∙◌}
use Rattle.std.specs.Bool.{then_some}
use Rattle.std.specs.List.{find}
use Rattle.std.specs.Str.{bytes_eq}
use Rattle.std.proofs.lemmas.Slice.Eq.{bytes_eq-Decides}
use Rattle.csi_types.specs.declared.method.Method.{Method}
use Rattle.csi_types.specs.declared.method.Method.TheVariants as method
use Rattle.csi_types.specs.Methods.{path_of, methods, method_at}

some_is : {X : Type 0} (x y : X) → Some x ≡ Some y → x ≡ y
some_is x y e = cc

found_in : (path : List ℕ) (m : Method) (ms : List Method) → find (λ k. bytes_eq path (path_of k)) ms ≡ Some m → path ≡ path_of m
found_in path m [] e = absurd cc
found_in path m (k ∷ ks) e = by (λ f. found_in path m ks f) (bytes_eq path (path_of k)) refl e
  where
    by : (find (λ k. bytes_eq path (path_of k)) ks ≡ Some m → path ≡ path_of m) → (b : Bool) → bytes_eq path (path_of k) ≡ b → cond (bytes_eq path (path_of k)) (Some k) (find (λ k. bytes_eq path (path_of k)) ks) ≡ Some m → path ≡ path_of m
    by rest true is f = (bytes_eq-Decides path (path_of k)).0 is ∙ ap path_of (some_is k m (ap (λ (t : Bool). cond t (Some k) (find (λ k. bytes_eq path (path_of k)) ks)) (sym is) ∙ f))
    by rest false is f = rest (ap (λ (t : Bool). cond t (Some k) (find (λ k. bytes_eq path (path_of k)) ks)) (sym is) ∙ f)

each_found : (m : Method) → method_at (path_of m) ≡ Some m
unfolding method_at
each_found method.GetPluginInfo = refl
each_found method.GetPluginCapabilities = refl
each_found method.Probe = refl
each_found method.CreateVolume = refl
each_found method.DeleteVolume = refl
each_found method.ControllerPublishVolume = refl
each_found method.ControllerUnpublishVolume = refl
each_found method.ValidateVolumeCapabilities = refl
each_found method.ListVolumes = refl
each_found method.GetCapacity = refl
each_found method.ControllerGetCapabilities = refl
each_found method.ControllerModifyVolume = refl

-- a path of no method
pub no_method : (path : List ℕ) → ((m : Method) → path ≡ path_of m → None ≡ Some m) → None ≡ method_at path
unfolding method_at
no_method path none = by (method_at path) refl
  where
    by : (x : Option Method) → method_at path ≡ x → None ≡ method_at path
    by None e = sym e
    by (Some m) e = absurd (let no : None ≡ Some m = none m (found_in path m methods e) in cc)

-- a path of this method or of none
pub this_method : (path : List ℕ) (b : Bool) (m : Method) → b ≡ bytes_eq path (path_of m) → ((n : Method) → path ≡ path_of n → Some m ≡ Some n) → then_some b m ≡ method_at path
this_method path true m is only = sym (ap method_at ((bytes_eq-Decides path (path_of m)).0 (sym is)) ∙ each_found m)
this_method path false m is only = no_method path (λ n e. absurd (apart ((bytes_eq-Decides path (path_of m)).1 (e ∙ ap path_of (some_is n m (sym (only n e)))))))
  where
    apart : bytes_eq path (path_of m) ≡ true → ⊥
    apart e = let clash : false ≡ true = is ∙ e in cc
