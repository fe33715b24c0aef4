use Rattle.csi_codec.proofs.short.+put_varint.Given as goal

abbrev pub decreases-put_varint : goal.decreases-put_varint
decreases-put_varint l = l.number
