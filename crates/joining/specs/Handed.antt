-- A table that a call is handed, as the code has it, and what goes with it. Assumes nothing.
use Rattle.plate.specs.Head.{Held, held_in}
use Rattle.joining.specs.declared.Held.{Held as Handed}

abbrev pub seen : Handed → Held
seen handed = held_in handed.head handed.buffer.now
