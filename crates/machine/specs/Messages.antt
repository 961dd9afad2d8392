-- The bytes of a message.
use Rattle.std.specs.Prelude.{ℕ, List, drop}
use Rattle.machine.specs.declared.message.Message.{Message}
use Rattle.machine.specs.declared.message.Message.TheVariants.{Number, Letter}

abbrev pub bytes_of : Message → List ℕ
bytes_of (Number text) = drop text.start text.bytes
bytes_of (Letter bytes) = bytes
