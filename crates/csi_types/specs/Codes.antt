-- Status codes (gRPC, 'Status codes and their use').
use Rattle.std.specs.Prelude.{ℕ, List, codes}
use Rattle.csi_types.specs.declared.code.Code.{Code}
use Rattle.csi_types.specs.declared.code.Code.TheVariants.{Ok, InvalidArgument, NotFound, AlreadyExists, ResourceExhausted, FailedPrecondition}
use Rattle.csi_types.specs.declared.code.Code.TheVariants.{Aborted, OutOfRange, Unimplemented, Internal}

-- the number of a code
abbrev pub number_of : Code → ℕ
number_of Ok = 0
number_of InvalidArgument = 3
number_of NotFound = 5
number_of AlreadyExists = 6
number_of ResourceExhausted = 8
number_of FailedPrecondition = 9
number_of Aborted = 10
number_of OutOfRange = 11
number_of Unimplemented = 12
number_of Internal = 13

-- the name of a code
abbrev pub name_of : Code → List ℕ
name_of Ok = codes "OK"
name_of InvalidArgument = codes "INVALID_ARGUMENT"
name_of NotFound = codes "NOT_FOUND"
name_of AlreadyExists = codes "ALREADY_EXISTS"
name_of ResourceExhausted = codes "RESOURCE_EXHAUSTED"
name_of FailedPrecondition = codes "FAILED_PRECONDITION"
name_of Aborted = codes "ABORTED"
name_of OutOfRange = codes "OUT_OF_RANGE"
name_of Unimplemented = codes "UNIMPLEMENTED"
name_of Internal = codes "INTERNAL"
