-- The response in a plan, in each form in which it is kept.
use Rattle.std.specs.Prelude.{Bool, true, false, codes}
use Rattle.std.specs.FinMap.{empty, insert}
use Rattle.csi_types.specs.Maps.{TextMap}
use Rattle.csi_keeper.specs.Texts.{Text}
use Rattle.csi_types.specs.declared.responses.Response.{Response}
use Rattle.csi_types.specs.declared.responses.Response.TheVariants as response
use Rattle.csi_machine.specs.declared.response.ResponseForm.{ResponseForm}
use Rattle.csi_machine.specs.declared.response.ResponseForm.TheVariants as kept

-- ---- a publication (CSI specification, 'ControllerPublishVolume')

abbrev pub flag_text : Bool → Text
flag_text true = codes "true"
flag_text false = codes "false"

-- the publish_context
abbrev pub publication : Bool → TextMap
publication readonly = insert empty (codes "readonly") (flag_text readonly)

-- ---- the forms of a response

abbrev pub form_response : ResponseForm → Response
form_response (kept.Made r) = r
form_response kept.Delete = response.Delete
form_response kept.Unpublish = response.Unpublish
form_response kept.Modify = response.Modify
form_response (kept.Published readonly) = response.Publish (publication readonly)
