use Rattle.std.proofs.Common.{◌≡◌, refl, ℕ, List, ◌++◌, length, drop, Option, ap, ◌∙◌, arith, w16, SFits, rules}
use Rattle.std.proofs.lemmas.Int.{to_z-of_z}
use Rattle.number.specs.declared.text.Reading.{Reading}
use Rattle.machine.specs.declared.plan.Cause.TheVariants.{RefusedText}
use Rattle.machine.specs.declared.plan.Plan.{Plan}
use Rattle.machine.specs.declared.plan.Plan.TheVariants.{Went, Fault}
use Rattle.machine.specs.declared.plan.Latch.{Latch}
use Rattle.machine.specs.declared.plan.Latch.TheVariants.{Open}
use Rattle.machine.specs.declared.plan.Outcome.TheVariants.{Waits}
use Rattle.line.specs.Ends.{Removed}
use Rattle.machine.specs.View.{State, view}
use Rattle.machine.specs.Values.{text_of}
use Rattle.machine.specs.Acts.{pushed}
use Rattle.machine.specs.States.{settled, undone}
use Rattle.machine.specs.Messages.{bytes_of}
use Rattle.machine.specs.Steps.{world, received, finished}
use Rattle.machine.proofs.Found.{found_there, found_inside}
use Rattle.machine.proofs.Laws.{done}
use Rattle.machine.proofs.Steps.{undo_is, step-ended, step_failed, step_by, finished_is, performed-rest, removed, held, held_at, taken_is, delivered_is, undelivered_is}
use Rattle.machine.proofs.state.Machine.step.Goals as goal

pub returns-in-Ended : goal.returns-in-Ended
returns-in-Ended g c =
    done _ _ _ _ _ (step-ended _ _ _ _ _ _ c.in-Ended.is)
    (held _ _ _)

pub returns-in-Failed : goal.returns-in-Failed
returns-in-Failed g c =
    done _ _ _ _ _ (step_failed _ _ _ _ _ _ _ _ c.in-Failed.is)
    (held _ _ _)

pub returns-in-Went : goal.returns-in-Went
returns-in-Went g c =
    done _ _ _ _ _ (step_by _ _ _ _ _ _ _ _ _ c.in-Open.is c.in-Went.ensures
    (finished_is (view c.advance.new.self) Went _ _ _ (g.L.Line.waiting c.args.line.now) (g.L.Line.sent c.args.line.now) (g.L.Line.room c.args.line.now) refl c.in-Open.is refl))
    (held _ _ _)

pub returns-in_default : goal.returns-in_default
returns-in_default g c =
    done _ _ _ _ _ (step_by _ _ _ _ _ _ _ _ _ c.in-Open.is c.advance.ensures
    (finished_is (view c.advance.new.self) c.advance.result _ _ _ (g.L.Line.waiting c.args.line.now) (g.L.Line.sent c.args.line.now) (g.L.Line.room c.args.line.now) (ap view c.settle-in_default.ensures.core) c.settle-in_default.ensures.latch c.settle-in_default.ensures.outcome
    ∙ performed-rest (view c.args.self.now.core) (view c.advance.new.self) c.advance.result (g.L.Line.waiting c.args.line.now) (g.L.Line.sent c.args.line.now) (g.L.Line.room c.args.line.now) c.in_default.not-Read c.in_default.not-Send))
    (held _ _ _)

pub returns-in-Wait : goal.returns-in-Wait
unfolding view
returns-in-Wait g c =
    let d = found_there c.in-Read.format _ c.as_bytes.result.now (g.L.Line.waiting c.args.line.now) c.in-Wait.ensures (c.as_bytes.ensures ∙ c.peek.ensures) in
    let u : view c.undo.new.self ≡ (view c.args.self.now.core) = c.undo.ensures ∙ (ap (λ (o : Option ℕ). undone o (view c.advance.new.self)) c.then_some-opened_at.ensures ∙ undo_is c.args.code.now c.args.self.now.core.activations c.args.self.now.core.depth c.args.self.now.core.at (view c.advance.new.self) c.in-Read.format c.in-Read.node c.in-Read.next c.in-Read.ensures) in
    let x : (world (view c.undo.new.self) c.args.self.now.latch (g.L.Line.waiting c.args.line.now) (g.L.Line.sent c.args.line.now) (g.L.Line.room c.args.line.now), Waits) ≡ (world (view c.args.self.now.core) Open (g.L.Line.waiting c.args.line.now) (g.L.Line.sent c.args.line.now) (g.L.Line.room c.args.line.now), Waits) =
    ap (λ (z : State). (world z c.args.self.now.latch (g.L.Line.waiting c.args.line.now) (g.L.Line.sent c.args.line.now) (g.L.Line.room c.args.line.now), Waits)) u ∙ ap (λ (z : Latch). (world (view c.args.self.now.core) z (g.L.Line.waiting c.args.line.now) (g.L.Line.sent c.args.line.now) (g.L.Line.room c.args.line.now), Waits)) c.in-Open.is in
    done _ _ _ _ _ (step_by _ _ _ _ _ _ _ _ _ c.in-Open.is c.in-Read.ensures
    (x ∙ ap (λ (z : Reading). received (view c.args.self.now.core) (view c.advance.new.self) c.in-Read.node c.in-Read.next z (g.L.Line.waiting c.args.line.now) (g.L.Line.sent c.args.line.now) (g.L.Line.room c.args.line.now)) d))
    (held _ _ _)

pub returns-in-Refused : goal.returns-in-Refused
returns-in-Refused g c =
    let d = found_there c.in-Read.format _ c.as_bytes.result.now (g.L.Line.waiting c.args.line.now) c.in-Refused.ensures (c.as_bytes.ensures ∙ c.peek.ensures) in
    done _ _ _ _ _ (step_by _ _ _ _ _ _ _ _ _ c.in-Open.is c.in-Read.ensures
    (finished_is (view c.advance.new.self) (Fault RefusedText c.in-Read.node) _ _ _ (g.L.Line.waiting c.args.line.now) (g.L.Line.sent c.args.line.now) (g.L.Line.room c.args.line.now) (ap view c.settle.ensures.core) c.settle.ensures.latch c.settle.ensures.outcome
    ∙ ap (λ (z : Reading). received (view c.args.self.now.core) (view c.advance.new.self) c.in-Read.node c.in-Read.next z (g.L.Line.waiting c.args.line.now) (g.L.Line.sent c.args.line.now) (g.L.Line.room c.args.line.now)) d))
    (held _ _ _)

pub returns-in-Took : goal.returns-in-Took
returns-in-Took g c =
    let d = found_there c.in-Read.format _ c.as_bytes.result.now (g.L.Line.waiting c.args.line.now) c.in-Took.ensures (c.as_bytes.ensures ∙ c.peek.ensures) in
    let n = found_inside c.in-Read.format (g.L.Line.waiting c.args.line.now) c.in-Took.value c.in-Took.count d in
    let k : Removed c.take.result c.in-Took.count (g.L.Line.waiting c.args.line.now) (g.L.Line.hold c.args.line.now) (g.L.Line.waiting c.take.new.self) (g.L.Line.hold c.take.new.self) = search rules in
    let t = removed c.take.result c.in-Took.count (g.L.Line.waiting c.args.line.now) (g.L.Line.hold c.args.line.now) (g.L.Line.waiting c.take.new.self) (g.L.Line.hold c.take.new.self) k n in
    let f : SFits w16 c.in-Took.value = search rules in
    let p : (view c.receive-plan.new.self, c.receive-plan.result) ≡ settled (pushed c.in-Took.value) c.in-Read.node c.in-Read.next (view c.advance.new.self) = simp to_z-of_z at c.receive-plan.ensures in
    done _ _ _ _ _ (step_by _ _ _ _ _ _ _ _ _ c.in-Open.is c.in-Read.ensures
    (taken_is (view c.receive-plan.new.self) c.receive-plan.result (view c.settle-in-Took.new.self.core) c.settle-in-Took.new.self.latch c.settle-in-Took.result c.in-Took.count (g.L.Line.waiting c.args.line.now) (g.L.Line.waiting c.take.new.self) (g.L.Line.sent c.args.line.now) (g.L.Line.sent c.take.new.self) (g.L.Line.room c.args.line.now) (g.L.Line.room c.take.new.self)
    (ap view c.settle-in-Took.ensures.core) c.settle-in-Took.ensures.latch c.settle-in-Took.ensures.outcome t.0 c.take.ensures.kept.0 c.take.ensures.kept.1
    ∙ (ap (λ (z : State × Plan). finished z (drop c.in-Took.count (g.L.Line.waiting c.args.line.now)) (g.L.Line.sent c.args.line.now) (g.L.Line.room c.args.line.now)) p ∙ ap (λ (z : Reading). received (view c.args.self.now.core) (view c.advance.new.self) c.in-Read.node c.in-Read.next z (g.L.Line.waiting c.args.line.now) (g.L.Line.sent c.args.line.now) (g.L.Line.room c.args.line.now)) d)))
    t.1

pub returns-then-send_text : goal.returns-then-send_text
returns-then-send_text g c =
    let f : SFits w16 c.in-Send.value = search rules in
    let m : bytes_of c.compose.result ≡ text_of c.in-Send.format c.in-Send.value = simp to_z-of_z at c.compose.ensures in
    let b : c.as_bytes-in-Send.result.now ≡ text_of c.in-Send.format c.in-Send.value = c.as_bytes-in-Send.ensures ∙ m in
    let n : length c.as_bytes-in-Send.result.now ≡ length (text_of c.in-Send.format c.in-Send.value) = ap length b in
    let t = c.if-send_text.ensures.goes in
    done _ _ _ _ _ (step_by _ _ _ _ _ _ _ _ _ c.in-Open.is c.in-Send.ensures
    (ap (λ (z : State). (world z c.settle-then-send_text.new.self.latch (g.L.Line.waiting c.send_text.new.line) (g.L.Line.sent c.send_text.new.line) (g.L.Line.room c.send_text.new.line), c.settle-then-send_text.result)) (ap view c.settle-then-send_text.ensures.core)
    ∙ delivered_is (view c.advance.new.self) (view c.release-plan.new.self) c.release-plan.result _ _ c.in-Send.node c.in-Send.next (text_of c.in-Send.format c.in-Send.value) (g.L.Line.waiting c.args.line.now) (g.L.Line.waiting c.send_text.new.line) (g.L.Line.sent c.args.line.now) (g.L.Line.sent c.send_text.new.line) (g.L.Line.room c.args.line.now) (g.L.Line.room c.send_text.new.line)
    (t.0 ∙ ap (λ (z : List ℕ). (g.L.Line.sent c.args.line.now) ++ z) b) (omega (arith, t.1, n)) c.if-send_text.ensures.kept.0 c.release-plan.ensures c.settle-then-send_text.ensures.latch c.settle-then-send_text.ensures.outcome))
    (held_at _ _ _ _ c.if-send_text.ensures.kept.1)

pub returns-else-send_text : goal.returns-else-send_text
returns-else-send_text g c =
    let f : SFits w16 c.in-Send.value = search rules in
    let m : bytes_of c.compose.result ≡ text_of c.in-Send.format c.in-Send.value = simp to_z-of_z at c.compose.ensures in
    let b : c.as_bytes-in-Send.result.now ≡ text_of c.in-Send.format c.in-Send.value = c.as_bytes-in-Send.ensures ∙ m in
    let n : length c.as_bytes-in-Send.result.now ≡ length (text_of c.in-Send.format c.in-Send.value) = ap length b in
    let t = c.if-send_text.ensures.goes in
    done _ _ _ _ _ (step_by _ _ _ _ _ _ _ _ _ c.in-Open.is c.in-Send.ensures
    (undelivered_is (view c.advance.new.self) (view c.settle-else-send_text.new.self.core) _ _ c.in-Send.node c.in-Send.next (text_of c.in-Send.format c.in-Send.value) (g.L.Line.waiting c.args.line.now) (g.L.Line.waiting c.send_text.new.line) (g.L.Line.sent c.args.line.now) (g.L.Line.sent c.send_text.new.line) (g.L.Line.room c.args.line.now) (g.L.Line.room c.send_text.new.line)
    (omega (arith, t.0, n)) t.1 t.2 c.if-send_text.ensures.kept.0 (ap view c.settle-else-send_text.ensures.core) c.settle-else-send_text.ensures.latch c.settle-else-send_text.ensures.outcome))
    (held_at _ _ _ _ c.if-send_text.ensures.kept.1)
