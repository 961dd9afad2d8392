-- That the check passes bytes and tells these counts, as a test.
use Rattle.std.specs.Prelude.{Bool, false, ◌&&◌, Ok, Err, ◌==◌}
use Rattle.walk.specs.Walk.{Answer}
use Rattle.walk.specs.declared.found.Passed.{Passed}

abbrev pub passes_as : Answer Passed → Passed → Bool
passes_as (Ok q) p = q.functions == p.functions && (q.nodes == p.nodes && q.words == p.words)
passes_as (Err e) p = false
