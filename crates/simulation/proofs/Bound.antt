-- A larger bound on calls and rounds only extends what is reported, however many entries there are.
use Rattle.std.proofs.Common.{ℕ, zero, suc, ◌≤◌, Bool, true, false, cond, ltb, leb, List, [], ◌∷◌, length, ℤ, pos, Some, None, Option, refl, arith}
use Rattle.table.specs.declared.shape.Kind.{Kind}
use Rattle.table.specs.declared.shape.Junction.TheVariants.{And, Or}
use Rattle.number.specs.Number.{holds as is_true}
use Rattle.number.specs.declared.text.Reading.{Reading}
use Rattle.number.specs.declared.text.Reading.TheVariants.{Wait, Refused, Took}
use Rattle.language.specs.Tree.{Expr, constant, variable, unary, binary, call, read, Args, none, more, Cond, compare, negate, join, holds, Stmt, skip, assign, perform, if, if_else, loop, break, continue, exit, return, write, Block, block, Stmts, done, next, Program}
use Rattle.language.specs.State.{State, Report, Stop, at_wait, at_end, at_fault, activations, stopped, get, put, opened, closed, without, narrowed}
use Rattle.language.specs.Operators.{apply_unary, apply_binary, compares, finds, text_of}
use Rattle.language.specs.Meaning.{Rest, enter, halt, nothing_more, too_deep, no_room, no_return, zero_divisor, most_activations, resulting, receive, send, Functions, activate, expression, arguments, condition, Ways, is_meant, in_loop, rounds, statement, body, statements, back, to_caller, body_end, place_of, function_at, variables_for, functions, walk}
use Rattle.language.specs.Laws.{◌⊑◌}

pub record Grows (r q : Rest) : Type 0 where
  pub go : (s : State) (n m : ℕ) → n ≤ m → r s n ⊑ q s m

record GrowsWays (w y : Ways) : Type 0 where
  behind : (x : ℕ) → Grows (w.behind x) (y.behind x)
  again : (x : ℕ) → Grows (w.again x) (y.again x)
  close : (v : ℤ) → Grows (w.close v) (y.close v)

enter_g : {r q : Rest} → Grows r q → Grows (enter r) (enter q)
enter_g {r} {q} K = record { go = go }
  where
    go : (s : State) (n m : ℕ) → n ≤ m → enter r s n ⊑ enter q s m
    go s zero m l = tt
    go s (suc n) zero l = absurd (omega arith)
    go s (suc n) (suc m) l = K.go s n m (omega arith)

stops : (x : Stop) (s : State) → stopped x s ⊑ stopped x s
stops at_wait s = refl
stops at_end s = refl
stops (at_fault c p) s = refl

halt_g : (x : Stop) → Grows (halt x) (halt x)
halt_g x = record { go = λ s n m l. stops x s }

nothing_g : {q : Rest} → Grows nothing_more q
nothing_g = record { go = λ s n m l. tt }

cond_g : (b : Bool) {r q r' q' : Rest} → Grows r q → Grows r' q' → Grows (cond b r r') (cond b q q')
cond_g true K L = K
cond_g false K L = L

either : (b : Bool) (x y x' y' : Report) → x ⊑ y → x' ⊑ y' → cond b x x' ⊑ cond b y y'
either true x y x' y' K L = K
either false x y x' y' K L = L

result_g : (p : ℕ) (o : Option ℤ) {k h : ℤ → Rest} → ((v : ℤ) → Grows (k v) (h v)) → Grows (resulting p o k) (resulting p o h)
result_g p None K = halt_g (at_fault zero_divisor p)
result_g p (Some v) K = K v

receive_g : (p : ℕ) (R : Reading) {k h : ℤ → Rest} → ((v : ℤ) → Grows (k v) (h v)) → (s : State) (n m : ℕ) → n ≤ m → receive p R k s n ⊑ receive p R h s m
receive_g p Wait K s n m l = refl
receive_g p Refused K s n m l = refl
receive_g p (Took v count) K s n m l = (_, refl, (K v).go (without count s) n m l)

send_g : (p : ℕ) (text : List ℕ) {k h : Rest} → Grows k h → Grows (send p text k) (send p text h)
send_g p text K = record { go = λ s n m l. either (leb (length text) s.room) _ _ _ _ (_, refl, K.go (narrowed (length text) s) n m l) (stops (at_fault no_room p) s) }

abbrev GrowsF : Functions → Functions → Type 0
GrowsF F H = (f : ℕ) (vs : List ℤ) (k h : ℤ → Rest) → ((v : ℤ) → Grows (k v) (h v)) → Grows (F f vs k) (H f vs h)

in_loop_g : {w y : Ways} {k h r q : Rest} (x : ℕ) → Grows k h → Grows r q → GrowsWays w y → GrowsWays (in_loop x k r w) (in_loop x h q y)
in_loop_g x K R W = record { behind = λ z. cond_g (is_meant x z) K (W.behind z); again = λ z. cond_g (is_meant x z) R (W.again z); close = W.close }

module _ {F H : Functions} (FH : GrowsF F H) where
  activate_g : (p f : ℕ) (vs : List ℤ) {k h : ℤ → Rest} → ((v : ℤ) → Grows (k v) (h v)) → Grows (activate F p f vs k) (activate H p f vs h)
  activate_g p f vs K = record { go = λ s n m l. either (ltb (activations s) most_activations) _ _ _ _ ((FH f vs _ _ K).go s n m l) (stops (at_fault too_deep p) s) }

  mutual
    unfolding expression

    grow_e : (e : Expr) {k h : ℤ → Rest} → ((v : ℤ) → Grows (k v) (h v)) → Grows (expression F e k) (expression H e h)
    grow_e (constant p q v) K = enter_g (K (pos v))
    grow_e (variable p whose x q) K = enter_g (record { go = λ s. (K (get whose x s)).go s })
    grow_e (unary p u e) K = enter_g (grow_e e (λ v. K (apply_unary u v)))
    grow_e (binary p b q x y) K = enter_g (grow_e x (λ u. grow_e y (λ v. result_g p (apply_binary b q u v) K)))
    grow_e (call p f q xs) K = enter_g (grow_a xs (λ vs. activate_g p f vs K))
    grow_e (read p q) K = enter_g (record { go = λ s. receive_g p (finds q s.waiting) K s })

    grow_a : (xs : Args) {k h : List ℤ → Rest} → ((vs : List ℤ) → Grows (k vs) (h vs)) → Grows (arguments F xs k) (arguments H xs h)
    grow_a none K = K []
    grow_a (more e xs) K = grow_e e (λ v. grow_a xs (λ vs. K (v ∷ vs)))

  grow_c : (c : Cond) {k h k' h' : Rest} → Grows k h → Grows k' h' → Grows (condition F c k k') (condition H c h h')
  unfolding condition
  grow_c (compare p o q x y) K L = enter_g (grow_e x (λ u. grow_e y (λ v. cond_g (compares o u v) K L)))
  grow_c (negate p c) K L = enter_g (grow_c c L K)
  grow_c (join p And c d) K L = enter_g (grow_c c (grow_c d K L) L)
  grow_c (join p Or c d) K L = enter_g (grow_c c K (grow_c d K L))
  grow_c (holds p e) K L = enter_g (grow_e e (λ v. cond_g (is_true v) K L))

  rounds_g : (g i : ℕ) → g ≤ i → (B D : Rest → Rest) → ((k h : Rest) → Grows k h → Grows (B k) (D h)) → Grows (rounds g B) (rounds i D)
  unfolding rounds
  rounds_g zero i l B D N = record { go = λ s n m q. tt }
  rounds_g (suc g) zero l B D N = absurd (omega arith)
  rounds_g (suc g) (suc i) l B D N = record { go = λ s n m q. (N (rounds g B) (rounds i D) (rounds_g g i (omega arith) B D N)).go s n m q }

  module _ {g i : ℕ} (l : g ≤ i) where
    mutual
      unfolding statement

      grow_s : (q : Stmt) {w y : Ways} {k h : Rest} → GrowsWays w y → Grows k h → Grows (statement g F q w k) (statement i H q y h)
      grow_s (skip p) W K = enter_g K
      grow_s (assign p whose x n e) W K = enter_g (grow_e e (λ v. record { go = λ s. K.go (put whose x v s) }))
      grow_s (perform p f xs) W K = enter_g (grow_a xs (λ vs. activate_g p f vs (λ v. K)))
      grow_s (if p c b) W K = enter_g (grow_c c (grow_b b W K) K)
      grow_s (if_else p c b d) W K = enter_g (grow_c c (grow_b b W K) (grow_b d W K))
      grow_s (loop p x b) W K = enter_g (rounds_g g i l _ _ (λ r q R. grow_b b (in_loop_g x K R W) R))
      grow_s (break p x) W K = enter_g (W.behind x)
      grow_s (continue p x) W K = enter_g (W.again x)
      grow_s (exit p) W K = enter_g (W.close (pos 0))
      grow_s (return p e) W K = enter_g (grow_e e W.close)
      grow_s (write p q e) W K = enter_g (grow_e e (λ v. send_g p (text_of q v) K))

      grow_b : (q : Block) {w y : Ways} {k h : Rest} → GrowsWays w y → Grows k h → Grows (body g F q w k) (body i H q y h)
      grow_b (block p ss) W K = enter_g (grow_ss ss W K)

      grow_ss : (q : Stmts) {w y : Ways} {k h : Rest} → GrowsWays w y → Grows k h → Grows (statements g F q w k) (statements i H q y h)
      grow_ss done W K = K
      grow_ss (next q qs) W K = grow_s q W (grow_ss qs W K)

back_g : (cs : List (List ℤ)) {k h : Rest} → Grows k h → Grows (back cs k) (back cs h)
back_g [] K = halt_g at_end
back_g (c ∷ cs) K = record { go = λ s. K.go (closed c cs s) }

caller_g : {k h : ℤ → Rest} → ((v : ℤ) → Grows (k v) (h v)) → (v : ℤ) → Grows (to_caller k v) (to_caller h v)
caller_g K v = record { go = λ s. (back_g s.callers (K v)).go s }

end_g : (o : Option Kind) (p : ℕ) {k h : ℤ → Rest} → ((v : ℤ) → Grows (k v) (h v)) → Grows (body_end o p k) (body_end o p h)
end_g None p K = K (pos 0)
end_g (Some k) p K = halt_g (at_fault no_return p)

grow_f : (P : Program) (g i : ℕ) → g ≤ i → GrowsF (functions P g) (functions P i)
unfolding functions
grow_f P zero i l f vs k h K = record { go = λ s n m q. tt }
grow_f P (suc g) zero l f vs k h K = absurd (omega arith)
grow_f P (suc g) (suc i) l f vs k h K =
    record {
      go = λ s. (grow_b (grow_f P g i (omega arith)) l (function_at P f).body (record { behind = λ x. nothing_g; again = λ x. nothing_g; close = caller_g K })
          (end_g (function_at P f).signature.result (place_of (function_at P f).body) (caller_g K))).go (opened (variables_for (function_at P f) vs) s);
    }

pub larger : (P : Program) (g i : ℕ) → g ≤ i → Grows (walk P g) (walk P i)
unfolding walk
larger P g i l =
    grow_b (grow_f P g i l) l (function_at P 0).body (record { behind = λ x. nothing_g; again = λ x. nothing_g; close = λ v. halt_g at_end })
    (end_g (function_at P 0).signature.result (place_of (function_at P 0).body) (λ v. halt_g at_end))
