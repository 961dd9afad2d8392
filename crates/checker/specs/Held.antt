-- What a caller's program holds.
use Rattle.std.specs.Prelude.{ℕ, List, [], ◌∷◌, take}
use Rattle.checker.specs.declared.program.Program.{Program}

-- its table
abbrev pub held : Program → List ℕ
held p = take p.size p.room

-- the table of the smallest program: one function, a block with one skip
abbrev pub smallest : List ℕ
smallest = 0x10 ∷ 0x40 ∷ 0x02 ∷ 0 ∷ 0 ∷ 0 ∷ 0 ∷ 0 ∷ 0 ∷ 0xA4 ∷ 0 ∷ 0x01 ∷ 0x80 ∷ 0 ∷ 0 ∷ []
