-- The paths of the methods (gRPC over HTTP2, 'Requests': a path is the service and the method).
use Rattle.std.specs.Prelude.{ℕ, List, [], ◌∷◌, ◌++◌, Option, Some, None, codes, find}
use Rattle.std.specs.Str.{bytes_eq}
use Rattle.csi_types.specs.declared.method.Method.{Method}
use Rattle.csi_types.specs.declared.method.Method.TheVariants.{GetPluginInfo, GetPluginCapabilities, Probe, CreateVolume, DeleteVolume}
use Rattle.csi_types.specs.declared.method.Method.TheVariants.{ControllerPublishVolume, ControllerUnpublishVolume, ValidateVolumeCapabilities}
use Rattle.csi_types.specs.declared.method.Method.TheVariants.{ListVolumes, GetCapacity, ControllerGetCapabilities, ControllerModifyVolume}

-- the path of a method
abbrev pub path_of : Method → List ℕ
path_of GetPluginInfo = codes "/csi.v1.Identity/GetPluginInfo"
path_of GetPluginCapabilities = codes "/csi.v1.Identity/GetPluginCapabilities"
path_of Probe = codes "/csi.v1.Identity/Probe"
path_of CreateVolume = codes "/csi.v1.Controller/CreateVolume"
path_of DeleteVolume = codes "/csi.v1.Controller/DeleteVolume"
path_of ControllerPublishVolume = codes "/csi.v1.Controller/ControllerPublishVolume"
path_of ControllerUnpublishVolume = codes "/csi.v1.Controller/ControllerUnpublishVolume"
path_of ValidateVolumeCapabilities = codes "/csi.v1.Controller/ValidateVolumeCapabilities"
path_of ListVolumes = codes "/csi.v1.Controller/ListVolumes"
path_of GetCapacity = codes "/csi.v1.Controller/GetCapacity"
path_of ControllerGetCapabilities = codes "/csi.v1.Controller/ControllerGetCapabilities"
path_of ControllerModifyVolume = codes "/csi.v1.Controller/ControllerModifyVolume"

-- all methods
abbrev pub methods : List Method
methods =
    GetPluginInfo
    ∷ GetPluginCapabilities
    ∷ Probe
    ∷ CreateVolume
    ∷ DeleteVolume
    ∷ ControllerPublishVolume
    ∷ ControllerUnpublishVolume
    ∷ ValidateVolumeCapabilities
    ∷ ListVolumes
    ∷ GetCapacity
    ∷ ControllerGetCapabilities
    ∷ ControllerModifyVolume
    ∷ []

-- the method with this path, if there is one
unfoldable pub method_at : List ℕ → Option Method
method_at path = find (λ method. bytes_eq path (path_of method)) methods

-- ---- methods by their names alone (CSI specification, 'RPC Interface')

abbrev pub or_else : Option Method → Option Method → Option Method
or_else None other = other
or_else (Some method) other = Some method

-- the method with this name of the controller service, or otherwise of the identity service
abbrev pub method_named : List ℕ → Option Method
method_named name = or_else (method_at (codes "/csi.v1.Controller/" ++ name)) (method_at (codes "/csi.v1.Identity/" ++ name))
