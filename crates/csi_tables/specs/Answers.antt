-- The fault for an error of the layer below, and the keeper's report of a fault of the tables.
use Rattle.std.specs.Prelude.{Result, Ok, Err}
use Rattle.sqlite.specs.declared.error.Error.{Error}
use Rattle.sqlite.specs.declared.error.Error.TheVariants.{SqliteFailure}
use Rattle.sqlite.specs.declared.error.ErrorCode.TheVariants.{OutOfMemory}
use Rattle.pbmessage.specs.declared.message.DecodeFault.{DecodeFault}
use Rattle.pbmessage.specs.declared.message.DecodeFault.TheVariants as decoding
use Rattle.csi_keeper.specs.declared.change.StoreFault.{StoreFault}
use Rattle.csi_keeper.specs.declared.change.StoreFault.TheVariants as store
use Rattle.csi_tables.specs.declared.fault.TablesFault.{TablesFault}
use Rattle.csi_tables.specs.declared.fault.TablesFault.TheVariants.{NoMemory, Refused}

-- lack of memory in the database is lack of memory, and any other error of the database is a refusal
abbrev pub of_database : Error → TablesFault
of_database (SqliteFailure OutOfMemory) = NoMemory
of_database _ = Refused

-- bytes of a column that mean nothing are a refusal
abbrev pub of_decoder : DecodeFault → TablesFault
of_decoder decoding.NoMemory = NoMemory
of_decoder (decoding.Malformed at) = Refused

abbrev pub reported : TablesFault → StoreFault
reported NoMemory = store.NoMemory
reported Refused = store.Refused

abbrev pub answered : {X : Type 0} → Result X TablesFault → Result X StoreFault
answered (Ok x) = Ok x
answered (Err fault) = Err (reported fault)
