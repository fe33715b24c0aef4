-- The call for a server's configuration, which a front answers on its control socket.
use Rattle.std.specs.Prelude.{ℕ, List, codes}

-- the path of the call
abbrev pub configuration_path : List ℕ
configuration_path = codes "/fomaheti.v1.Front/GetConfiguration"
