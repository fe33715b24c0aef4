-- Which attachments of one volume can exist at two nodes (CSI specification, 'CreateVolume',
-- VolumeCapability.AccessMode).
use Rattle.std.specs.Prelude.{ℕ, ◌==◌, ◌&&◌, ◌||◌, Bool}
use Rattle.csi_keeper.specs.declared.volume.Attachment.{Attachment}

-- MULTI_NODE_READER_ONLY 3, MULTI_NODE_SINGLE_WRITER 4 if one of the two attachments is read-only,
-- MULTI_NODE_MULTI_WRITER 5
abbrev pub is_shared : ℕ → Bool → Bool
is_shared mode readonly = mode == 3 || mode == 5 || (mode == 4 && readonly)

-- the modes of the attachments are equal, and several nodes may share the volume in this mode
abbrev pub coexist : Attachment → Attachment → Bool
coexist a b = a.cap.mode == b.cap.mode && is_shared a.cap.mode (a.readonly || b.readonly)
