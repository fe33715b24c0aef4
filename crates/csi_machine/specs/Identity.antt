-- The requests about the plugin itself: GetPluginInfo, GetPluginCapabilities, Probe and
-- ControllerGetCapabilities (CSI specification, the sections of these names).
use Rattle.std.specs.Prelude.{pos, true, [], ◌∷◌, Some}
use Rattle.csi_types.specs.declared.responses.Response.TheVariants as response
use Rattle.csi_config.specs.declared.config.Config.{Config}
use Rattle.csi_machine.specs.declared.plan.Plan.{Plan}
use Rattle.csi_machine.specs.Plan.{respond}

abbrev pub plugin_info : Config → Plan
plugin_info config = respond (response.PluginInfo config.plugin.name config.plugin.version)

-- CONTROLLER_SERVICE 1, VOLUME_ACCESSIBILITY_CONSTRAINTS 2
abbrev pub plugin_capabilities : Plan
plugin_capabilities = respond (response.PluginCapabilities (Some (pos 1) ∷ Some (pos 2) ∷ []))

-- the plugin is ready
abbrev pub probe : Plan
probe = respond (response.Probe (Some true))

-- CREATE_DELETE_VOLUME 1, PUBLISH_UNPUBLISH_VOLUME 2, LIST_VOLUMES 3, GET_CAPACITY 4, PUBLISH_READONLY 8,
-- LIST_VOLUMES_PUBLISHED_NODES 10, SINGLE_NODE_MULTI_WRITER 13, MODIFY_VOLUME 14
abbrev pub controller_capabilities : Plan
controller_capabilities =
    respond (response.ControllerCapabilities
    (Some (pos 1) ∷ Some (pos 2) ∷ Some (pos 3) ∷ Some (pos 4) ∷ Some (pos 8) ∷ Some (pos 10) ∷ Some (pos 13) ∷ Some (pos 14) ∷ []))
