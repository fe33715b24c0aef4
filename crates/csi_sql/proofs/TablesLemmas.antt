-- The table that each CREATE text defines.
use Rattle.std.proofs.Common.{◌≡◌, refl, Ok}
use Rattle.sqlite.specs.Compile.{table_defined_by}
use Rattle.sqlite_tied.specs.Compute.{everything}
use Rattle.csi_sql.specs.Tables.{meta_text, volumes_text, attachments_text, meta, volumes, attachments}

pub meta_is : table_defined_by meta_text ≡ Ok meta
unfolding everything
meta_is = refl

pub volumes_is : table_defined_by volumes_text ≡ Ok volumes
unfolding everything
volumes_is = refl

pub attachments_is : table_defined_by attachments_text ≡ Ok attachments
unfolding everything
attachments_is = refl
