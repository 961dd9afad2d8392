use Rattle.std.proofs.Common.{◌≡◌, ℕ, min, Some, None, Option, refl, subst, rules}
use Rattle.std.specs.Option.{option_map_or}
use Rattle.table.specs.Flow.{mapped}
use Rattle.table.specs.declared.record.Function.{Function}
use Rattle.language.specs.Reader.{kinds_or}
use Rattle.walk.specs.Bodies.{signature_of}
use Rattle.language.specs.Rules.{parameter_kinds}
use Rattle.translate.specs.Source.{Counts}
use Rattle.translate.proofs.Steps.{args-counted, parameters-many}
use Rattle.translate.proofs.refer.argument_count.Goals as goal

-- of a function's record, as many as its parameters are
many : (o : Option Function) → Counts (kinds_or (mapped signature_of o)) (option_map_or (λ f. min f.parameters f.variables) o 0)
many None = λ one j. refl
many (Some f) = subst (λ (m : ℕ). Counts (parameter_kinds (signature_of f)) m) (parameters-many f) (args-counted (parameter_kinds (signature_of f)))

pub returns : goal.returns
returns c =
    let e : c.map_or.result ≡ option_map_or (λ f. min f.parameters f.variables) c.called.result 0 = search rules in
    rw (e, ← c.called.ensures) (many c.called.result)
