use Rattle.std.proofs.Common.{◌≡◌, ◌≤◌, List, length, get_or, pos, Option, ℤ, sym, ap, ◌∙◌, arith, w16, SFits, rules}
use Rattle.std.proofs.lemmas.Int.{to_z-of_z}
use Rattle.std.specs.Option.{unwrap_or}
use Rattle.machine.specs.View.{Act, view}
use Rattle.machine.specs.States.{main_variables, variable_at}
use Rattle.machine.proofs.Tables.{none_open, main-at, slot_is}
use Rattle.machine.proofs.state.Machine.main_variable.Goals as goal

pub returns-then-self-eq0 : goal.returns-then-self-eq0
unfolding view main_variables
returns-then-self-eq0 c = sym (ap (λ (z : List Act). get_or (main_variables z) c.args.slot (pos 0)) (none_open c.args.self.now.core.activations c.args.self.now.core.depth c.if-self-eq0.true))

pub returns : goal.returns
unfolding view
returns c =
    let l : c.args.self.now.core.depth ≤ length c.args.self.now.core.activations = omega arith in
    let m = main-at c.args.self.now.core.activations c.args.self.now.core.depth (omega arith) l c.index-self-0.result in
    let f : SFits w16 c.unwrap_or.result = search rules in
    let v : c.variable.result ≡ variable_at (main_variables (view c.args.self.now.core).acts) c.args.slot = rw m c.variable.ensures in
    to_z-of_z w16 c.unwrap_or.result f ∙ (c.unwrap_or.ensures ∙ (ap (λ (o : Option ℤ). unwrap_or o (pos 0)) v ∙ slot_is _ c.args.slot))
