-- Values keep to their kinds: one induction over the meaning of a program that keeps the rules.
use Rattle.std.proofs.Common.{◌≡◌, ℕ, zero, suc, ◌<◌, Bool, true, false, cond, ltb, leb, List, [], ◌∷◌, map, length, get_or, take, set, ℤ, pos, Some, None, Option, refl, arith}
use Rattle.std.specs.List.{AllByRecursion, slice_get}
use Rattle.std.proofs.ByRecursion.{All-drop}
use Rattle.std.proofs.lemmas.Bool.{ne_eqb}
use Rattle.table.specs.declared.shape.Kind.{Kind}
use Rattle.table.specs.declared.shape.Scope.{Scope}
use Rattle.table.specs.declared.shape.Scope.TheVariants.{Own, Main}
use Rattle.table.specs.declared.shape.Junction.TheVariants.{And, Or}
use Rattle.number.specs.Number.{holds as is_true}
use Rattle.number.specs.declared.text.Reading.{Reading}
use Rattle.number.specs.declared.text.Reading.TheVariants.{Wait, Refused, Took}
use Rattle.language.specs.Tree.{Expr, constant, variable, unary, binary, call, read, Args, none, more, Cond, compare, negate, join, holds, Stmt, skip, assign, perform, if, if_else, loop, break, continue, exit, return, write, Block, block, Stmts, done, next, Signature, Function, Program}
use Rattle.language.specs.Measures.{kind_of, format_kind}
use Rattle.language.specs.Rules.{Env, slot_in, slot_kind, called, parameter_kinds, FineE, FineA, FineC, FineS, FineB, FineSs, FineOthers, FineFunctions, signatures, main_env, other_env}
use Rattle.language.specs.State.{State, Report, Stop, at_wait, at_end, at_fault, activations, stopped, last_of, main_variables, get, set_last, set_main, put, opened, closed, without, narrowed, fill}
use Rattle.language.specs.Operators.{numbers_of, apply_unary, apply_binary, compares, finds, text_of}
use Rattle.language.specs.Meaning.{Rest, enter, halt, nothing_more, too_deep, no_room, refused_text, no_return, zero_divisor, most_activations, resulting, receive, send, Functions, activate, expression, arguments, condition, Ways, is_meant, in_loop, rounds, statement, body, statements, back, to_caller, body_end, place_of, whole_body, empty, function_at, variables_for, functions, walk, start}
use Rattle.language.specs.Ranges.{IsOf, Fitting, KindsKept, ValuesInRange}
use Rattle.language.proofs.Values.{of-constant, of_zero, of-unary, IfOf, of-binary, ReadOf, of-read}

-- The kinds of the callers' variables, row by row, and of main's, which stand last.
abbrev pub RowsFit : List (List Kind) → List (List ℤ) → Type 0
RowsFit [] [] = Unit {0}
RowsFit [] (r ∷ rs) = ⊥
RowsFit (ks ∷ kss) [] = ⊥
RowsFit (ks ∷ kss) (r ∷ rs) = Fitting ks r × RowsFit kss rs

abbrev pub last_row : List Kind → List (List Kind) → List Kind
last_row ks [] = ks
last_row ks (r ∷ rs) = last_row r rs

pub record Shaped (ks : List Kind) (kss : List (List Kind)) (s : State) : Type 0 where
  pub own : Fitting ks s.own
  pub callers : RowsFit kss s.callers
  pub bytes : AllByRecursion (λ b. b < 256) s.waiting

pub get_fits : (ks : List Kind) (vs : List ℤ) (x : ℕ) (k : Kind) → Fitting ks vs → slice_get ks x ≡ Some k → IsOf k (get_or vs x (pos 0))
get_fits [] [] x k h e = of_zero k
get_fits [] (v ∷ vs) x k h e = absurd h
get_fits (c ∷ ks) [] x k h e = absurd h
get_fits (c ∷ ks) (v ∷ vs) zero k h e = let d : c ≡ k = cc in rw d at h.0
get_fits (c ∷ ks) (v ∷ vs) (suc x) k h e = get_fits ks vs x k h.1 e

pub set_fits : (ks : List Kind) (vs : List ℤ) (x : ℕ) (k : Kind) (v : ℤ) → Fitting ks vs → slice_get ks x ≡ Some k → IsOf k v → Fitting ks (set vs x v)
set_fits [] [] x k v h e w = tt
set_fits [] (u ∷ vs) x k v h e w = absurd h
set_fits (c ∷ ks) [] x k v h e w = absurd h
set_fits (c ∷ ks) (u ∷ vs) zero k v h e w = let d : k ≡ c = cc in (rw d at w, h.1)
set_fits (c ∷ ks) (u ∷ vs) (suc x) k v h e w = (h.0, set_fits ks vs x k v h.1 e w)

pub last_fits : (ks : List Kind) (kss : List (List Kind)) (r : List ℤ) (rs : List (List ℤ)) → Fitting ks r → RowsFit kss rs → Fitting (last_row ks kss) (last_of r rs)
last_fits ks [] r [] h g = h
last_fits ks [] r (q ∷ rs) h g = absurd g
last_fits ks (c ∷ kss) r [] h g = absurd g
last_fits ks (c ∷ kss) r (q ∷ rs) h g = last_fits c kss q rs g.0 g.1

set_last_fits : (ks : List Kind) (kss : List (List Kind)) (r : List ℤ) (rs : List (List ℤ)) (x : ℕ) (k : Kind) (v : ℤ) → Fitting ks r → RowsFit kss rs → slice_get (last_row ks kss) x ≡ Some k → IsOf k v → RowsFit (ks ∷ kss) (set_last r rs x v)
set_last_fits ks [] r [] x k v h g e w = (set_fits ks r x k v h e w, tt)
set_last_fits ks [] r (q ∷ rs) x k v h g e w = absurd g
set_last_fits ks (c ∷ kss) r [] x k v h g e w = absurd g
set_last_fits ks (c ∷ kss) r (q ∷ rs) x k v h g e w = (h, set_last_fits c kss q rs x k v g.0 g.1 e w)

pub set_main_fits : (mk ks : List Kind) (kss : List (List Kind)) (rs : List (List ℤ)) (x : ℕ) (k : Kind) (v : ℤ) → last_row ks kss ≡ mk → RowsFit kss rs → slice_get mk x ≡ Some k → IsOf k v → RowsFit kss (set_main rs x v)
set_main_fits mk ks [] [] x k v l g e w = tt
set_main_fits mk ks [] (q ∷ rs) x k v l g e w = absurd g
set_main_fits mk ks (c ∷ kss) [] x k v l g e w = absurd g
set_main_fits mk ks (c ∷ kss) (q ∷ rs) x k v l g e w = set_last_fits c kss q rs x k v g.0 g.1 (rw l e) w

pub fill_fits : (ks : List Kind) (n : ℕ) (vs : List ℤ) → Fitting (take n ks) vs → Fitting ks (fill (length ks) vs)
fill_fits [] zero [] h = tt
fill_fits [] zero (v ∷ vs) h = absurd h
fill_fits [] (suc n) [] h = tt
fill_fits [] (suc n) (v ∷ vs) h = absurd h
fill_fits (k ∷ ks) zero [] h = (of_zero k, fill_fits ks zero [] tt)
fill_fits (k ∷ ks) zero (v ∷ vs) h = absurd h
fill_fits (k ∷ ks) (suc n) [] h = absurd h
fill_fits (k ∷ ks) (suc n) (v ∷ vs) h = (h.0, fill_fits ks n vs h.1)

-- a result of a function, if it has one
abbrev pub ResultOf : Option Kind → ℤ → Type 0
ResultOf None v = Unit {0}
ResultOf (Some k) v = IsOf k v

module _ (mk : List Kind) where
  -- from each state of this shape, main's variables are reported in range
  record Ranged (ks : List Kind) (kss : List (List Kind)) (r : Rest) : Type 0 where
    go : (s : State) → Shaped ks kss s → (n : ℕ) → KindsKept mk (r s n)

  either : (b : Bool) (x y : Report) → KindsKept mk x → KindsKept mk y → KindsKept mk (cond b x y)
  either true x y p q = p
  either false x y p q = q

  module _ {ks : List Kind} {kss : List (List Kind)} (last : last_row ks kss ≡ mk) where
    halts : (x : Stop) (s : State) → Shaped ks kss s → KindsKept mk (stopped x s)
    halts at_wait s S = tt
    halts at_end s S = rw last at (last_fits ks kss s.own s.callers S.own S.callers)
    halts (at_fault c p) s S = rw last at (last_fits ks kss s.own s.callers S.own S.callers)

    halt_r : (x : Stop) → Ranged ks kss (halt x)
    halt_r x = record { go = λ s S n. halts x s S }

    stays : Ranged ks kss nothing_more
    stays = record { go = λ s S n. tt }

    enters : {r : Rest} → Ranged ks kss r → Ranged ks kss (enter r)
    enters {r} K = record { go = go }
      where
        go : (s : State) → Shaped ks kss s → (n : ℕ) → KindsKept mk (enter r s n)
        go s S zero = tt
        go s S (suc n) = K.go s S n

    cond_r : (b : Bool) {r q : Rest} → Ranged ks kss r → Ranged ks kss q → Ranged ks kss (cond b r q)
    cond_r true K H = K
    cond_r false K H = H

    result_r : (p : ℕ) (k : Kind) (o : Option ℤ) {r : ℤ → Rest} → IfOf k o → ((v : ℤ) → IsOf k v → Ranged ks kss (r v)) → Ranged ks kss (resulting p o r)
    result_r p k None h K = halt_r (at_fault zero_divisor p)
    result_r p k (Some v) h K = K v h

    receive_r : (p : ℕ) (k : Kind) (R : Reading) {r : ℤ → Rest} → ReadOf (numbers_of k) R → ((v : ℤ) → IsOf k v → Ranged ks kss (r v)) → Ranged ks kss (receive p R r)
    receive_r p k Wait h K = halt_r at_wait
    receive_r p k Refused h K = halt_r (at_fault refused_text p)
    receive_r p k (Took v count) h K =
        record { go = λ s S n. (K v h).go (without count s) (record { own = S.own; callers = S.callers; bytes = All-drop (λ b. b < 256) count s.waiting S.bytes }) n }

    send_r : (p : ℕ) (text : List ℕ) {r : Rest} → Ranged ks kss r → Ranged ks kss (send p text r)
    send_r p text K =
        record {
          go = λ s S n. either (leb (length text) s.room) _ _
              (K.go (narrowed (length text) s) (record { own = S.own; callers = S.callers; bytes = S.bytes }) n) (halts (at_fault no_room p) s S);
        }

    rounds_r : (g : ℕ) (D : Rest → Rest) → ((k : Rest) → Ranged ks kss k → Ranged ks kss (D k)) → Ranged ks kss (rounds g D)
    unfolding rounds
    rounds_r zero D H = record { go = λ s S n. tt }
    rounds_r (suc g) D H = record { go = (H (rounds g D) (rounds_r g D H)).go }

  -- what functions do, given what callers know of them
  abbrev RangedF : (ℕ → Option Signature) → Functions → Type 0
  RangedF known F =
      (f : ℕ) (g : Signature) (vs : List ℤ) (r : ℤ → Rest) (ks : List Kind) (kss : List (List Kind)) → called known f ≡ Some g → last_row ks kss ≡ mk → Fitting (parameter_kinds g) vs → ((v : ℤ) → ResultOf g.result v → Ranged ks kss (r v)) → Ranged ks kss (F f vs r)

  module _ (E : Env) (F : Functions) (FR : RangedF E.functions F) (kss : List (List Kind)) (last : last_row E.own.variables kss ≡ mk) (main : (x : ℕ) (k : Kind) → slot_in E.main x ≡ Some k → slice_get mk x ≡ Some k) where
    abbrev Good : Rest → Type 0
    Good r = Ranged E.own.variables kss r

    activate_r : (p f : ℕ) (g : Signature) (vs : List ℤ) {r : ℤ → Rest} → called E.functions f ≡ Some g → Fitting (parameter_kinds g) vs → ((v : ℤ) → ResultOf g.result v → Good (r v)) → Good (activate F p f vs r)
    activate_r p f g vs {r} e h K =
        record {
          go = λ s S n. either (ltb (activations s) most_activations) _ _ ((FR f g vs r E.own.variables kss e last h K).go s S n) (halts last (at_fault too_deep p) s S);
        }

    get_r : (whose : Scope) (x : ℕ) (k : Kind) {r : ℤ → Rest} → slot_kind E.own E.main whose x ≡ Some k → ((v : ℤ) → IsOf k v → Good (r v)) → Good (λ s. r (get whose x s) s)
    get_r Own x k e K = record { go = λ s S n. (K (get Own x s) (get_fits E.own.variables s.own x k S.own e)).go s S n }
    get_r Main x k e K =
        record {
          go = λ s S n. (K (get Main x s)
              (get_fits mk (main_variables s) x k (rw last at (last_fits E.own.variables kss s.own s.callers S.own S.callers)) (main x k e))).go s S n;
        }

    put_r : (whose : Scope) (x : ℕ) (k : Kind) (v : ℤ) {r : Rest} → slot_kind E.own E.main whose x ≡ Some k → IsOf k v → Good r → Good (λ s. r (put whose x v s))
    put_r Own x k v e w K =
        record { go = λ s S n. K.go (put Own x v s) (record { own = set_fits E.own.variables s.own x k v S.own e w; callers = S.callers; bytes = S.bytes }) n }
    put_r Main x k v e w K =
        record { go = λ s S n. K.go (put Main x v s) (record { own = S.own; callers = set_main_fits mk E.own.variables kss s.callers x k v last S.callers (main x k e) w; bytes = S.bytes }) n }

    mutual
      unfolding expression

      expression_r : (e : Expr) {r : ℤ → Rest} → FineE E e → ((v : ℤ) → IsOf (kind_of e) v → Good (r v)) → Good (expression F e r)
      expression_r (constant p k n) h K = enters last (K (pos n) (of-constant k n h))
      expression_r (variable p whose x k) h K = enters last (get_r whose x k h K)
      expression_r (unary p u a) h K = enters last (expression_r a h.0 (λ v w. K (apply_unary u v) (of-unary u v (rw h.1 at w))))
      expression_r (binary p o k a b) h K =
          enters last (expression_r a h.0 (λ x w. expression_r b h.1 (λ y z. result_r last p k (apply_binary o k x y) (of-binary o k x y h.4) K)))
      expression_r (call p f k xs) h K =
          enters last (arguments_r xs (parameter_kinds h.0) h.3 (λ vs w. activate_r p f h.0 vs h.1 w (λ v z. K v (rw h.2 at z))))
      expression_r (read p q) h K =
          enters last (record { go = λ s S n. (receive_r last p (format_kind q) (finds q s.waiting) (of-read q s.waiting S.bytes) K).go s S n })

      arguments_r : (xs : Args) (gs : List Kind) {r : List ℤ → Rest} → FineA E gs xs → ((vs : List ℤ) → Fitting gs vs → Good (r vs)) → Good (arguments F xs r)
      arguments_r none [] h K = K [] tt
      arguments_r none (k ∷ gs) h K = absurd h
      arguments_r (more a xs) [] h K = absurd h
      arguments_r (more a xs) (k ∷ gs) h K = expression_r a h.0 (λ v w. arguments_r xs gs h.2 (λ vs z. K (v ∷ vs) (rw h.1 at w, z)))

    condition_r : (c : Cond) {r q : Rest} → FineC E c → Good r → Good q → Good (condition F c r q)
    unfolding condition
    condition_r (compare p o k a b) h K L = enters last (expression_r a h.0 (λ x w. expression_r b h.1 (λ y z. cond_r last (compares o x y) K L)))
    condition_r (negate p c) h K L = enters last (condition_r c h L K)
    condition_r (join p And c d) h K L = enters last (condition_r c h.0 (condition_r d h.1 K L) L)
    condition_r (join p Or c d) h K L = enters last (condition_r c h.0 K (condition_r d h.1 K L))
    condition_r (holds p a) h K L = enters last (expression_r a h.0 (λ x w. cond_r last (is_true x) K L))

    record GoodWays (w : Ways) : Type 0 where
      behind : (x : ℕ) → Good (w.behind x)
      again : (x : ℕ) → Good (w.again x)
      close : (v : ℤ) → ResultOf E.own.result v → Good (w.close v)

    in_loop_r : (name : ℕ) {w : Ways} {r q : Rest} → Good r → Good q → GoodWays w → GoodWays (in_loop name r q w)
    in_loop_r name K R W =
        record { behind = λ x. cond_r last (is_meant name x) K (W.behind x); again = λ x. cond_r last (is_meant name x) R (W.again x); close = W.close }

    module _ (g : ℕ) where
      mutual
        unfolding statement

        statement_r : (c : Stmt) (ns : List ℕ) {w : Ways} {r : Rest} → FineS E ns c → GoodWays w → Good r → Good (statement g F c w r)
        statement_r (skip p) ns h W K = enters last K
        statement_r (assign p whose x k a) ns h W K = enters last (expression_r a h.1 (λ v w. put_r whose x k v h.0 (rw h.2 at w) K))
        statement_r (perform p f xs) ns h W K =
            enters last (arguments_r xs (parameter_kinds h.0) h.3 (λ vs w. activate_r p f h.0 vs h.1 w (λ v z. K)))
        statement_r (if p c b) ns h W K = enters last (condition_r c h.0 (body_r b ns h.1 W K) K)
        statement_r (if_else p c b d) ns h W K = enters last (condition_r c h.0 (body_r b ns h.1 W K) (body_r d ns h.2 W K))
        statement_r (loop p m b) ns h W K = enters last (rounds_r last g _ (λ k R. body_r b (m ∷ ns) h.2 (in_loop_r m K R W) R))
        statement_r (break p m) ns h W K = enters last (W.behind m)
        statement_r (continue p m) ns h W K = enters last (W.again m)
        statement_r (exit p) ns h W K = enters last (W.close (pos 0) (rw h tt))
        statement_r (return p a) ns h W K = enters last (expression_r a h.1 (λ v w. W.close v (rw h.0 w)))
        statement_r (write p q a) ns h W K = enters last (expression_r a h.0 (λ v w. send_r last p (text_of q v) K))

        body_r : (c : Block) (ns : List ℕ) {w : Ways} {r : Rest} → FineB E ns c → GoodWays w → Good r → Good (body g F c w r)
        body_r (block p ss) ns h W K = enters last (statements_r ss ns h.2 W K)

        statements_r : (c : Stmts) (ns : List ℕ) {w : Ways} {r : Rest} → FineSs E ns c → GoodWays w → Good r → Good (statements g F c w r)
        statements_r done ns h W K = K
        statements_r (next c cs) ns h W K = statement_r c ns h.0 W (statements_r cs ns h.1 W K)

      end_r : (o : Option Kind) (p : ℕ) {k : ℤ → Rest} → ((v : ℤ) → ResultOf o v → Good (k v)) → Good (body_end o p k)
      end_r None p K = K (pos 0) tt
      end_r (Some k) p K = halt_r last (at_fault no_return p)

      whole_r : (b : Block) {k : ℤ → Rest} → FineB E [] b → ((v : ℤ) → ResultOf E.own.result v → Good (k v)) → Good (whole_body g F (record { signature = E.own; body = b }) k)
      whole_r b h K = body_r b [] h (record { behind = λ x. stays last; again = λ x. stays last; close = K }) (end_r E.own.result (place_of b) K)

  -- the caller goes on with its own variables
  caller_r : {vars ks : List Kind} {kss : List (List Kind)} (o : Option Kind) {k : ℤ → Rest} → ((v : ℤ) → ResultOf o v → Ranged ks kss (k v)) → (v : ℤ) → ResultOf o v → Ranged vars (ks ∷ kss) (to_caller k v)
  caller_r {vars} {ks} {kss} o {k} K v w = record { go = λ s S n. backs s.callers s S.callers S.bytes n }
    where
      backs : (cs : List (List ℤ)) (s : State) → RowsFit (ks ∷ kss) cs → AllByRecursion (λ b. b < 256) s.waiting → (n : ℕ) → KindsKept mk (back cs (k v) s n)
      backs [] s g b n = absurd g
      backs (c ∷ cs) s g b n = (K v w).go (closed c cs s) (record { own = g.0; callers = g.1; bytes = b }) n

-- a function that is called, by its number among the others
found : (P : Program) (m : Signature) (fs : List Function) (j : ℕ) (g : Signature) → FineOthers P m fs → slice_get (map (λ f. f.signature) fs) j ≡ Some g → ((get_or fs j empty).signature ≡ g) × FineB (other_env P m (get_or fs j empty).signature) [] (get_or fs j empty).body
found P m [] j g h e = let z : ◌≡◌ {A = ℕ} 0 1 = cc in absurd (omega arith)
found P m (f ∷ fs) zero g h e = let d : f.signature ≡ g = cc in (d, h.0.body_fine)
found P m (f ∷ fs) (suc j) g h e = found P m fs j g h.1 e

module _ (m : Function) (fs : List Function) (fine : FineOthers (m ∷ fs) m.signature fs) where
  functions_r : (g : ℕ) → RangedF m.signature.variables (slice_get (signatures (m ∷ fs))) (functions (m ∷ fs) g)
  unfolding functions
  functions_r zero f g vs r ks kss e last h K = record { go = λ s S n. tt }
  functions_r (suc b) zero g vs r ks kss e last h K = let z : ◌≡◌ {A = ℕ} 0 1 = cc in absurd (omega arith)
  functions_r (suc b) (suc j) g vs r ks kss e last h K =
      let q = found (m ∷ fs) m.signature fs j g fine (rw (ne_eqb (suc j) 0 (λ z. omega arith)) at e) in
      let f = get_or fs j empty in
      record {
        go = λ s S n. (whole_r m.signature.variables (other_env (m ∷ fs) m.signature f.signature) (functions (m ∷ fs) b) (functions_r b) (ks ∷ kss) last (λ x k t. t) (suc b) f.body q.1
            (caller_r m.signature.variables f.signature.result (λ v w. K v (rw q.0 at w)))).go (opened (variables_for f vs) s)
            (record { own = fill_fits f.signature.variables f.signature.parameters vs (rw q.0 h); callers = (S.own, S.callers); bytes = S.bytes }) n;
      }

by-main : (P : Program) → FineFunctions P → (bytes : List ℕ) → AllByRecursion (λ b. b < 256) bytes → (room n : ℕ) → KindsKept (function_at P 0).signature.variables (walk P n (start P bytes room) n)
unfolding walk
by-main [] h bytes small room n = absurd h
by-main (m ∷ fs) h bytes small room n =
    (whole_r m.signature.variables (main_env (m ∷ fs) m.signature) (functions (m ∷ fs) n) (functions_r m fs h.3 n) [] refl
    (λ x k t. let z : ◌≡◌ {A = ℕ} 0 1 = cc in absurd (omega arith)) n m.body h.2.body_fine (λ v w. halt_r m.signature.variables refl at_end)).go (start (m ∷ fs) bytes room)
    (record { own = fill_fits m.signature.variables 0 [] tt; callers = tt; bytes = small }) n

pub values_in_range : ValuesInRange
values_in_range P keeps = by-main P keeps.functions
