-- Functions and main: the simulation of whole programs, by induction on the bound.
use Rattle.std.proofs.Common.{◌≡◌, ℕ, zero, suc, ◌+◌, ◌<◌, ◌≤◌, Bool, true, false, cond, eqb, List, [], ◌∷◌, map, length, get_or, ℤ, pos, Some, None, Option, sym, refl, ap, ◌∙◌, subst, arith}
use Rattle.std.specs.List.{slice_get}
use Rattle.std.proofs.lemmas.Bool.{lt-ltb, ne_eqb, false≢true}
use Rattle.table.specs.declared.shape.Kind.{Kind}
use Rattle.code.specs.declared.instruction.Instruction.{Instruction}
use Rattle.code.specs.declared.instruction.Instruction.TheVariants.{Exit, Return, Close}
use Rattle.machine.specs.declared.plan.Cause.{Cause}
use Rattle.machine.specs.declared.plan.Cause.TheVariants.{BadCode, NoReturn}
use Rattle.machine.specs.declared.plan.Plan.TheVariants.{Went, Over, Fault}
use Rattle.machine.specs.View.{Act, State as Machine, state}
use Rattle.machine.specs.States.{has_result, left, returned, run}
use Rattle.machine.specs.Steps.{World}
use Rattle.language.specs.Tree.{Signature, Function, Program}
use Rattle.language.specs.Laws.{◌⊑◌}
use Rattle.language.specs.Rules.{is_open, parameter_kinds, FineFunction, FineOthers, signatures, main_env, other_env}
use Rattle.language.specs.State.{State, running, at_end, at_fault, stopped, opened, closed, fill}
use Rattle.language.specs.Meaning.{Rest, halt, no_return, back, to_caller, body_end, place_of, whole_body, empty, function_at, variables_for, functions, walk}
use Rattle.language.specs.Ranges.{Fitting}
use Rattle.language.proofs.Ranges.{RowsFit, last_row, fill_fits, ResultOf}
use Rattle.simulation.specs.Runs.{machine_report}
use Rattle.simulation.proofs.Moves.{Sim, nothing}
use Rattle.simulation.proofs.Rows.{Frame, act_with, acts, Scene, top_act, machine_at, world_at, Shape, mains}
use Rattle.simulation.proofs.Words.{At, finishes}
use Rattle.simulation.proofs.Does.{callee}
use Rattle.simulation.proofs.Places.{end_b, HasB}
use Rattle.simulation.proofs.Scenes.{From, fit_length, goes_on, fails-here}
use Rattle.simulation.proofs.Sim.{given, Calls, Entries, sim_b}

return-acts : (p a : ℕ) (x : Act) (v : ℤ) (o : List ℤ) (r : List ℤ) (rs : List (List ℤ)) (f : Frame) (fs : List Frame) → x.gives ≡ true → x.ops ≡ v ∷ o → length r + length f.ops < 64
    → returned p (state (x ∷ acts (r ∷ rs) (f ∷ fs)) a) ≡ (state (act_with r (record { ops = v ∷ f.ops; gives = f.gives; back = f.back }) ∷ acts rs fs) x.back, Went)
unfolding returned
return-acts p a x v o r rs f fs e q l = rw (e, q, lt-ltb (length r + length f.ops) 64 l) refl

leave_acts : (i : Cause) (p a : ℕ) (x : Act) (r : List ℤ) (rs : List (List ℤ)) (f : Frame) (fs : List Frame) → x.gives ≡ false → left i p (state (x ∷ acts (r ∷ rs) (f ∷ fs)) a) ≡ (state (act_with r f ∷ acts rs fs) x.back, Went)
unfolding left
leave_acts i p a x r rs f fs e = rw e refl

lack_acts : (i : Cause) (p a : ℕ) (x : Act) (r : List ℤ) (rs : List (List ℤ)) (f : Frame) (fs : List Frame) → x.gives ≡ true → left i p (state (x ∷ acts (r ∷ rs) (f ∷ fs)) a) ≡ (state (x ∷ acts (r ∷ rs) (f ∷ fs)) a, Fault i p)
unfolding left
lack_acts i p a x r rs f fs e = rw e refl

-- the machine goes back to a caller, with a result or with none
module _ {code : List ℕ} {c : Scene} {j d : ℕ} (k : ℤ → Rest) (ks : List Kind) (b : Bool) (ra : ℕ) (o : List ℤ) (v : ℤ) where
  returns : (a p : ℕ) → b ≡ true → At code a Return p → length c.kinds + length o < 64 → From code c j d (k v) ra (v ∷ o) → From code (callee c o ks b ra) j (suc d) (to_caller k v) a (v ∷ [])
  returns a p e h l K = record { go = λ s out S. by s.callers s out S refl S.callers }
    where
      by : (cs : List (List ℤ)) (s : State) (out : List ℕ) → Shape (callee c o ks b ra) s → s.callers ≡ cs → RowsFit (c.kinds ∷ c.rows) cs → Sim code j (suc d) (back cs (k v) s) (world_at a (v ∷ []) (callee c o ks b ra) s out)
      by [] s out S q w = absurd w
      by (r ∷ rs) s out S q w =
          goes_on (callee c o ks b ra) h (v ∷ []) s out _ (omega arith)
          (ap (λ (z : List (List ℤ)). returned p (state (top_act (v ∷ []) (callee c o ks b ra) s ∷ acts z (callee c o ks b ra).frames) a)) q
          ∙ return-acts p a (top_act (v ∷ []) (callee c o ks b ra) s) v [] r rs (record { ops = o; gives = c.gives; back = c.back }) c.frames e refl (let z = fit_length c.kinds r w.0 in omega arith))
          (K.go (closed r rs s) out (record { own = w.0; callers = w.1; bytes = S.bytes }))

  leaves : (i : Instruction) (x : Cause) (a p : ℕ) → ((m : Machine) → run i p (a + 1) code m ≡ left x p m) → b ≡ false → At code a i p → From code c j d (k v) ra o → From code (callee c o ks b ra) j (suc d) (to_caller k v) a []
  leaves i x a p runs e h K = record { go = λ s out S. by s.callers s out S refl S.callers }
    where
      by : (cs : List (List ℤ)) (s : State) (out : List ℕ) → Shape (callee c o ks b ra) s → s.callers ≡ cs → RowsFit (c.kinds ∷ c.rows) cs → Sim code j (suc d) (back cs (k v) s) (world_at a [] (callee c o ks b ra) s out)
      by [] s out S q w = absurd w
      by (r ∷ rs) s out S q w =
          goes_on (callee c o ks b ra) h [] s out _ (omega arith)
          (runs _ ∙ ap (λ (z : List (List ℤ)). left x p (state (top_act [] (callee c o ks b ra) s ∷ acts z (callee c o ks b ra).frames) a)) q
          ∙ leave_acts x p a (top_act [] (callee c o ks b ra) s) r rs (record { ops = o; gives = c.gives; back = c.back }) c.frames e)
          (K.go (closed r rs s) out (record { own = w.0; callers = w.1; bytes = S.bytes }))

lacks : {code : List ℕ} {c : Scene} {j d : ℕ} (ks : List Kind) (b : Bool) (ra : ℕ) (o : List ℤ) (a p : ℕ) → length c.rows ≡ length c.frames → b ≡ true → At code a Close p → From code (callee c o ks b ra) j (suc d) (halt (at_fault no_return p)) a []
lacks {code} {c} ks b ra o a p m e h = record { go = λ s out S. by s.callers s out S refl S.callers }
  where
    by : {j d : ℕ} (cs : List (List ℤ)) (s : State) (out : List ℕ) → Shape (callee c o ks b ra) s → s.callers ≡ cs → RowsFit (c.kinds ∷ c.rows) cs → Sim code j (suc d) (λ n. stopped (at_fault no_return p) s) (world_at a [] (callee c o ks b ra) s out)
    by [] s out S q w = absurd w
    by (r ∷ rs) s out S q w =
        fails-here (callee c o ks b ra) h [] s out (ap suc m) S NoReturn
        (subst (λ (z : List (List ℤ)). left NoReturn p (state (top_act [] (callee c o ks b ra) s ∷ acts z (callee c o ks b ra).frames) a) ≡ (state (top_act [] (callee c o ks b ra) s ∷ acts z (callee c o ks b ra).frames) a, Fault NoReturn p)) (sym q)
        (lack_acts NoReturn p a (top_act [] (callee c o ks b ra) s) r rs (record { ops = o; gives = c.gives; back = c.back }) c.frames e))

-- a body's end
closes : {code : List ℕ} {c : Scene} {j d : ℕ} (k : ℤ → Rest) (ks : List Kind) (R : Option Kind) (ra : ℕ) (o : List ℤ) (a p : ℕ) → length c.rows ≡ length c.frames → At code a Close p → ((v : ℤ) → ResultOf R v → From code c j d (k v) ra (given R v o)) → From code (callee c o ks (has_result R) ra) j (suc d) (body_end R p (to_caller k)) a []
closes k ks None ra o a p m h K = leaves k ks false ra o (pos 0) Close NoReturn a p (λ n. refl) refl h (K (pos 0) tt)
closes k ks (Some q) ra o a p m h K = lacks ks true ra o a p m refl h

pub found : (P : Program) (m : Signature) (fs : List Function) (j : ℕ) (g : Signature) → FineOthers P m fs → slice_get (map (λ f. f.signature) fs) j ≡ Some g → (j < length fs) × ((get_or fs j empty).signature ≡ g) × FineFunction (other_env P m (get_or fs j empty).signature) (get_or fs j empty)
found P m [] j g h e = let z : ◌≡◌ {A = ℕ} 0 1 = cc in absurd (omega arith)
found P m (f ∷ fs) zero g h e = let d : f.signature ≡ g = cc in (omega arith, d, h.0)
found P m (f ∷ fs) (suc j) g h e = let r = found P m fs j g h.1 e in let l = r.0 in (omega arith, r.1, r.2)

-- no loop is open around a body
none_open : (x : ℕ) → is_open x [] ≡ true → ⊥
none_open x e = by (eqb x 0) e
  where
    by : (b : Bool) → cond b false false ≡ true → ⊥
    by true e = false≢true e
    by false e = false≢true e

-- within no step at all nothing is reported
used_up : (code : List ℕ) (j d : ℕ) (w : World) → j ≤ 0 → Sim code j d (λ n. running) w
used_up code j d w l =
    record { fwd = λ n t q. tt; bwd = λ t q. (0, subst (λ (u : ℕ). machine_report code u w ⊑ running) {x = 0} {y = t} (omega arith) (rw (nothing code w) tt)) }

ends_alone : (x : Cause) (p a : ℕ) (y : Act) → left x p (state (y ∷ []) a) ≡ (state (y ∷ []) a, Over)
unfolding left
ends_alone x p a y = refl

-- what stands at the address of each function
pub record Bodies (code : List ℕ) (P : Program) (address : ℕ → ℕ) : Type 0 where
  pub stands : (f : ℕ) → f < length P → HasB code (function_at P f).body [] (address f)
  pub ends : (f : ℕ) → f < length P → At code (end_b (function_at P f).body (address f)) Close (place_of (function_at P f).body)

module _ (code : List ℕ) (m : Function) (fs : List Function) (fine : FineOthers (m ∷ fs) m.signature fs) (address : ℕ → ℕ) (entries : Entries code (slice_get (signatures (m ∷ fs))) address) (bodies : Bodies code (m ∷ fs) address) where
  -- one call, given the calls within it
  one-call : (g : ℕ) → Calls code m.signature.variables (slice_get (signatures (m ∷ fs))) address g (functions (m ∷ fs) g)
      → (f : Function) (at : ℕ) → FineFunction (other_env (m ∷ fs) m.signature f.signature) f → HasB code f.body [] at → At code (end_b f.body at) Close (place_of f.body)
      → (j d : ℕ) (vs : List ℤ) (k : ℤ → Rest) (ra : ℕ) (o : List ℤ) (c : Scene) → j ≤ suc g → last_row c.kinds c.rows ≡ m.signature.variables → length c.rows ≡ length c.frames
      → (has_result f.signature.result ≡ true → length c.kinds + length o < 64) → Fitting (parameter_kinds f.signature) vs → ((v : ℤ) → ResultOf f.signature.result v → From code c j d (k v) ra (given f.signature.result v o))
      → (s : State) (out : List ℕ) → Shape c s → Sim code j d (whole_body (suc g) (functions (m ∷ fs) g) f (to_caller k) (opened (variables_for f vs) s)) (world_at at [] (callee c o f.signature.variables (has_result f.signature.result) ra) (opened (variables_for f vs) s) out)
  one-call g calls f at t h x j d vs k ra o c l last match z w K s out S =
      (sim_b code m.signature.variables address g (functions (m ∷ fs) g) (other_env (m ∷ fs) m.signature f.signature) calls entries
      (callee c o f.signature.variables (has_result f.signature.result) ra) refl last (ap suc match) (λ x k t. (t, omega arith)) (suc g) (omega arith) f.body l at [] t.body_fine h t.cells
      (record {
        breaks = λ x u. absurd (none_open x u);
        conts = λ x u. absurd (none_open x u);
        exits = λ u a p r. leaves k f.signature.variables (has_result f.signature.result) ra o (pos 0) Exit BadCode a p (λ n. refl) (rw u refl) r (rw u at (K (pos 0)) tt);
        rets = λ q u v y a p r. returns k f.signature.variables (has_result f.signature.result) ra o v a p (rw u refl) r (z (rw u refl)) (rw u at (K v) y);
      })
      (closes k f.signature.variables f.signature.result ra o (end_b f.body at) (place_of f.body) match x K)).go (opened (variables_for f vs) s) out
      (record { own = fill_fits f.signature.variables f.signature.parameters vs w; callers = (S.own, S.callers); bytes = S.bytes })

  calls : (g : ℕ) → Calls code m.signature.variables (slice_get (signatures (m ∷ fs))) address g (functions (m ∷ fs) g)
  unfolding functions
  calls zero j d f y vs k ra o c l e last match z w K s out S = used_up code j d (world_at (address f) [] (callee c o y.variables (has_result y.result) ra) (opened (fill (length y.variables) vs) s) out) l
  calls (suc g) j d zero y vs k ra o c l e last match z w K s out S = let q : ◌≡◌ {A = ℕ} 0 1 = cc in absurd (omega arith)
  calls (suc g) j d (suc i) y vs k ra o c l e last match z w K s out S =
      let q = found (m ∷ fs) m.signature fs i y fine (rw (ne_eqb (suc i) 0 (λ z. omega arith)) at e) in
      let n : (get_or fs i empty).signature ≡ y = q.1 in
      let b : i < length fs = q.0 in
      subst (λ (x : Signature). Sim code j d (whole_body (suc g) (functions (m ∷ fs) g) (get_or fs i empty) (to_caller k) (opened (variables_for (get_or fs i empty) vs) s)) (world_at (address (suc i)) [] (callee c o x.variables (has_result x.result) ra) (opened (fill (length x.variables) vs) s) out)) n
      (one-call g (calls g) (get_or fs i empty) (address (suc i)) q.2 (bodies.stands (suc i) (omega arith)) (bodies.ends (suc i) (omega arith)) j d vs k ra o c l last match
      (subst (λ (x : Signature). has_result x.result ≡ true → length c.kinds + length o < 64) (sym n) z)
      (subst (λ (x : Signature). Fitting (parameter_kinds x) vs) (sym n) w)
      (subst (λ (x : Signature). (v : ℤ) → ResultOf x.result v → From code c j d (k v) ra (given x.result v o)) (sym n) K) s out S)

  -- the scene of main
  abbrev pub main_scene : Scene
  main_scene = record { kinds = m.signature.variables; rows = []; gives = false; back = 0; frames = [] }

  over : {i : Instruction} {j d a p : ℕ} (x : Cause) → ((n : Machine) → run i p (a + 1) code n ≡ left x p n) → At code a i p → From code main_scene j (suc d) (halt at_end) a []
  over {i} {j} {d} {a} {p} x runs h = record { go = λ s out S. by s.callers s out S refl S.callers }
    where
      by : (cs : List (List ℤ)) (s : State) (out : List ℕ) → Shape main_scene s → s.callers ≡ cs → RowsFit [] cs → Sim code j (suc d) (λ n. stopped at_end s) (world_at a [] main_scene s out)
      by [] s out S q w =
          finishes code (top_act [] main_scene s) (acts s.callers []) a i p h s.waiting out s.room (machine_at a [] main_scene s) s
          (runs _ ∙ subst (λ (z : List (List ℤ)). left x p (state (top_act [] main_scene s ∷ acts z []) a) ≡ (state (top_act [] main_scene s ∷ acts z []) a, Over)) (sym q) (ends_alone x p a (top_act [] main_scene s)))
          (mains a [] main_scene s refl S)
      by (r ∷ rs) s out S q w = absurd w

  pub sim-main : (g j : ℕ) → j ≤ g → m.signature.result ≡ None → FineFunction (main_env (m ∷ fs) m.signature) m → From code main_scene j 0 (walk (m ∷ fs) g) (address 0) []
  unfolding walk
  sim-main g j l none t =
      sim_b code m.signature.variables address g (functions (m ∷ fs) g) (main_env (m ∷ fs) m.signature) (calls g) entries main_scene refl refl refl
      (λ x k t. let z : ◌≡◌ {A = ℕ} 0 1 = cc in absurd (omega arith)) g (omega arith) m.body l (address 0) [] t.body_fine (bodies.stands 0 (omega arith)) t.cells
      (record {
        breaks = λ x u. absurd (none_open x u);
        conts = λ x u. absurd (none_open x u);
        exits = λ u a p r. over BadCode (λ n. refl) r;
        rets = λ q u v y a p r. let z : ◌≡◌ {A = ℕ} 0 1 = cc in absurd (omega arith);
      })
      (rw none (over NoReturn (λ n. refl) (bodies.ends 0 (omega arith))))
