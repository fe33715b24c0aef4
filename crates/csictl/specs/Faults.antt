-- The failure of the program for a fault of a field or of a body.
use Rattle.pbmessage.specs.declared.message.DecodeFault.{DecodeFault}
use Rattle.pbmessage.specs.declared.message.DecodeFault.TheVariants as decoding
use Rattle.csictl.specs.declared.failure.Failure.{Failure}
use Rattle.csictl.specs.declared.failure.Failure.TheVariants as failure
use Rattle.csictl.specs.declared.fields.FieldFault.{FieldFault}
use Rattle.csictl.specs.declared.fields.FieldFault.TheVariants as field

abbrev pub failure_of : FieldFault → Failure
failure_of field.NotPair = failure.NotPair
failure_of field.NoMemory = failure.NoMemory

-- bytes that are no response of their method are a bad body
abbrev pub of_decoder : DecodeFault → Failure
of_decoder decoding.NoMemory = failure.NoMemory
of_decoder (decoding.Malformed at) = failure.BadBody
