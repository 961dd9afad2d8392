-- One induction over the meaning, from which its laws follow: two runs of one program, the second with more entries,
-- more bytes fed and any other bound, compared at each way on.
use Rattle.std.proofs.Common.{◌≡◌, ℕ, zero, suc, ◌-◌, ◌≤◌, Bool, true, false, cond, ltb, leb, List, [], ◌∷◌, ◌++◌, length, take, drop, ℤ, pos, Some, None, Option, sym, refl, ap, ◌∙◌, subst, inl, inr, append_assoc, append-nil, arith, lit≤, length-append, take-append-drop}
use lib.Seq.{take-append-le, drop-append-le}
use Rattle.std.proofs.lemmas.Bool.{leb-true}
use Rattle.table.specs.declared.shape.Kind.{Kind}
use Rattle.table.specs.declared.shape.Scope.{Scope}
use Rattle.table.specs.declared.shape.Scope.TheVariants.{Own, Main}
use Rattle.table.specs.declared.shape.Format.{Format}
use Rattle.table.specs.declared.shape.Junction.TheVariants.{And, Or}
use Rattle.number.specs.Number.{holds as is_true}
use Rattle.number.specs.declared.text.Reading.{Reading}
use Rattle.number.specs.declared.text.Reading.TheVariants.{Wait, Refused, Took}
use Rattle.language.specs.Tree.{Expr, constant, variable, unary, binary, call, read, Args, none, more, Cond, compare, negate, join, holds, Stmt, skip, assign, perform, if, if_else, loop, break, continue, exit, return, write, Block, block, Stmts, done, next, Function, Program}
use Rattle.language.specs.State.{State, took, sent, Report, running, waits, ◌▷◌, Stop, at_wait, at_end, at_fault, activations, stopped, get, put, opened, closed, without, narrowed}
use Rattle.language.specs.Operators.{apply_unary, apply_binary, compares, finds, text_of}
use Rattle.language.specs.Meaning.{Rest, enter, halt, nothing_more, too_deep, no_room, refused_text, no_return, zero_divisor, most_activations, resulting, receive, send, Functions, activate, expression, arguments, condition, Ways, is_meant, in_loop, rounds, statement, body, statements, back, to_caller, body_end, place_of, body_ways, whole_body, function_at, variables_for, functions, walk}
use Rattle.language.specs.Laws.{Extends, fed, taken_in, sent_in, Fits, Known, FaultsKnown}
use Rattle.language.proofs.Readings.{AtMost, Stays, finds-stays}

-- What is shown of the two reports: the second extends the first, and the first fits the state and has known faults.
pub record Grown (w : Bool) (waiting : List ℕ) (room : ℕ) (x y : Report) : Type 0 where
  pub extends : Extends w x y
  pub fits : Fits waiting room x
  pub known : FaultsKnown x

-- A report without happenings fits.
quiet : (ws : List ℕ) (room : ℕ) (x : Report) → taken_in x ≡ [] → sent_in x ≡ [] → Fits ws room x
quiet ws room x t e = record { part = (ws, rw t); enough = rw e (omega arith) }

still : {w : Bool} (ws : List ℕ) (room : ℕ) (y : Report) → Grown w ws room running y
still ws room y = record { extends = tt; fits = quiet ws room running refl refl; known = tt }

waiting_too : (w : Bool) → Extends w waits waits
waiting_too true = tt
waiting_too false = refl

abbrev KnownStop : Stop → Type 0
KnownStop at_wait = Unit {0}
KnownStop at_end = Unit {0}
KnownStop (at_fault c p) = Known c

halts : (w : Bool) (u : List ℕ) (x : Stop) (s : State) → KnownStop x → Grown w s.waiting s.room (stopped x s) (stopped x (fed u s))
halts w u at_wait s k = record { extends = waiting_too w; fits = quiet _ _ waits refl refl; known = tt }
halts w u at_end s k = record { extends = refl; fits = quiet _ _ (stopped at_end s) refl refl; known = tt }
halts w u (at_fault c p) s k = record { extends = refl; fits = quiet _ _ (stopped (at_fault c p) s) refl refl; known = k }

takes : {w : Bool} (ws : List ℕ) (room count : ℕ) (x y : Report) → Grown w (drop count ws) room x y → Grown w ws room (took (take count ws) ▷ x) (took (take count ws) ▷ y)
takes ws room count x y G =
    record {
      extends = (y, refl, G.extends);
      fits = record {
        part = (G.fits.part.0, sym (take-append-drop count ws) ∙ ap (λ (l : List ℕ). take count ws ++ l) G.fits.part.1 ∙ sym (append_assoc (take count ws) (taken_in x) G.fits.part.0));
        enough = G.fits.enough;
      };
      known = G.known;
    }

sends : {w : Bool} (ws : List ℕ) (room : ℕ) (text : List ℕ) (x y : Report) → length text ≤ room → Grown w ws (room - length text) x y → Grown w ws room (sent text ▷ x) (sent text ▷ y)
sends ws room text x y l G =
    let e = length-append text (sent_in x) in
    let q = G.fits.enough in
    record { extends = (y, refl, G.extends); fits = record { part = G.fits.part; enough = omega arith }; known = G.known }

either : {w : Bool} (ws : List ℕ) (room : ℕ) (b : Bool) (x y x' y' : Report) → (b ≡ true → Grown w ws room x y) → Grown w ws room x' y' → Grown w ws room (cond b x x') (cond b y y')
either ws room true x y x' y' G H = G refl
either ws room false x y x' y' G H = H

module _ (w : Bool) (u : List ℕ) (same : w ≡ false → u ≡ []) where
  -- The second run's way on does so from each state, for up to b entries.
  pub record Follows (b : ℕ) (r q : Rest) : Type 0 where
    pub go : (s : State) (n m : ℕ) → n ≤ b → n ≤ m → Grown w s.waiting s.room (r s n) (q (fed u s) m)

  abbrev FollowsF : ℕ → Functions → Functions → Type 0
  FollowsF b F G = (c f : ℕ) (vs : List ℤ) (k h : ℤ → Rest) → c ≤ b → ((v : ℤ) → Follows c (k v) (h v)) → Follows c (F f vs k) (G f vs h)

  record FollowsW (b : ℕ) (v z : Ways) : Type 0 where
    behind : (x : ℕ) → Follows b (v.behind x) (z.behind x)
    again : (x : ℕ) → Follows b (v.again x) (z.again x)
    close : (x : ℤ) → Follows b (v.close x) (z.close x)

  less : {b c : ℕ} {r q : Rest} → c ≤ b → Follows b r q → Follows c r q
  less l K = record { go = λ s n m h. K.go s n m (omega arith) }

  less_w : {b c : ℕ} {v z : Ways} → c ≤ b → FollowsW b v z → FollowsW c v z
  less_w l W = record { behind = λ x. less l (W.behind x); again = λ x. less l (W.again x); close = λ x. less l (W.close x) }

  deeper : {b : ℕ} {r q : Rest} → Follows b r q → Follows (suc b) (enter r) (enter q)
  deeper {b} {r} {q} K = record { go = go }
    where
      go : (s : State) (n m : ℕ) → n ≤ suc b → n ≤ m → Grown w s.waiting s.room (enter r s n) (enter q (fed u s) m)
      go s zero m l h = still s.waiting s.room _
      go s (suc n) zero l h = absurd (omega arith)
      go s (suc n) (suc m) l h = K.go s n m (omega arith) (omega arith)

  enters : {b : ℕ} {r q : Rest} → Follows b r q → Follows b (enter r) (enter q)
  enters K = less (omega arith) (deeper K)

  -- within no entries nothing is reported
  at_once : {r q : Rest} → ((s : State) → r s 0 ≡ running) → Follows 0 r q
  at_once {r} {q} Z = record { go = λ s n m l h. subst (λ (n : ℕ). Grown w s.waiting s.room (r s n) (q (fed u s) m)) {x = 0} {y = n} (omega arith) (rw (Z s) (still s.waiting s.room _)) }

  module _ {b : ℕ} where
    stays : Follows b nothing_more nothing_more
    stays = record { go = λ s n m l h. still s.waiting s.room running }

    halt_f : (x : Stop) → KnownStop x → Follows b (halt x) (halt x)
    halt_f x k = record { go = λ s n m l h. halts w u x s k }

    result_f : (p : ℕ) (o : Option ℤ) {k h : ℤ → Rest} → ((v : ℤ) → Follows b (k v) (h v)) → Follows b (resulting p o k) (resulting p o h)
    result_f p None K = halt_f (at_fault zero_divisor p) (lit≤ tt, lit≤ tt)
    result_f p (Some v) K = K v

    -- the same reading on both sides
    got_f : (p : ℕ) (R : Reading) {k h : ℤ → Rest} → ((v : ℤ) → Follows b (k v) (h v)) → (s : State) (n m : ℕ) → n ≤ b → n ≤ m → AtMost (length s.waiting) R → Grown w s.waiting s.room (receive p R k s n) (receive p R h (fed u s) m)
    got_f p Wait K s n m l j A = halts w u at_wait s tt
    got_f p Refused K s n m l j A = halts w u (at_fault refused_text p) s (lit≤ tt, lit≤ tt)
    got_f p (Took v count) {k} {h} K s n m l j A =
        rw (take-append-le count s.waiting u A, drop-append-le count s.waiting u A)
        (takes s.waiting s.room count _ _ ((K v).go (without count s) n m l j))

    cond_f : (c : Bool) {k h k' h' : Rest} → Follows b k h → Follows b k' h' → Follows b (cond c k k') (cond c h h')
    cond_f true K K' = K
    cond_f false K K' = K'

    send_f : (p : ℕ) (text : List ℕ) {k h : Rest} → Follows b k h → Follows b (send p text k) (send p text h)
    send_f p text K =
        record {
          go = λ s n m l j. either s.waiting s.room (leb (length text) s.room) _ _ _ _
              (λ e. sends s.waiting s.room text _ _ (leb-true (length text) s.room e) (K.go (narrowed (length text) s) n m l j))
              (halts w u (at_fault no_room p) s (lit≤ tt, lit≤ tt));
        }

    back_f : (cs : List (List ℤ)) {k h : Rest} → Follows b k h → Follows b (back cs k) (back cs h)
    back_f [] K = halt_f at_end tt
    back_f (c ∷ cs) K = record { go = λ s. K.go (closed c cs s) }

    caller_f : {k h : ℤ → Rest} → ((v : ℤ) → Follows b (k v) (h v)) → (v : ℤ) → Follows b (to_caller k v) (to_caller h v)
    caller_f K v = record { go = λ s. (back_f s.callers (K v)).go s }

    end_f : (o : Option Kind) (p : ℕ) {k h : ℤ → Rest} → ((v : ℤ) → Follows b (k v) (h v)) → Follows b (body_end o p k) (body_end o p h)
    end_f None p K = K (pos 0)
    end_f (Some k) p K = halt_f (at_fault no_return p) (lit≤ tt, lit≤ tt)

    put_f : (whose : Scope) (x : ℕ) (v : ℤ) {k h : Rest} → Follows b k h → Follows b (λ s. k (put whose x v s)) (λ s. h (put whose x v s))
    put_f Own x v K = record { go = λ s. K.go (put Own x v s) }
    put_f Main x v K = record { go = λ s. K.go (put Main x v s) }

    get_f : (whose : Scope) (x : ℕ) {k h : ℤ → Rest} → ((v : ℤ) → Follows b (k v) (h v)) → Follows b (λ s. k (get whose x s) s) (λ s. h (get whose x s) s)
    get_f Own x K = record { go = λ s. (K (get Own x s)).go s }
    get_f Main x K = record { go = λ s. (K (get Main x s)).go s }

    in_loop_f : (name : ℕ) {v z : Ways} {k h r q : Rest} → Follows b k h → Follows b r q → FollowsW b v z → FollowsW b (in_loop name k r v) (in_loop name h q z)
    in_loop_f name K R W = record { behind = λ x. cond_f (is_meant name x) K (W.behind x); again = λ x. cond_f (is_meant name x) R (W.again x); close = W.close }

    ways_f : {k h : ℤ → Rest} → ((v : ℤ) → Follows b (k v) (h v)) → FollowsW b (body_ways k) (body_ways h)
    ways_f K = record { behind = λ x. stays; again = λ x. stays; close = K }

    -- a read: a wait may be over with more bytes; anything else stays as it was found
    read_f : (p : ℕ) (q : Format) {k h : ℤ → Rest} → ((v : ℤ) → Follows b (k v) (h v)) → (s : State) (n m : ℕ) → n ≤ b → n ≤ m → Grown w s.waiting s.room (receive p (finds q s.waiting) k s n) (receive p (finds q (s.waiting ++ u)) h (fed u s) m)
    read_f p q {k} {h} K s n m l j = by-stays (finds-stays q s.waiting u)
      where
        Goal : Reading → Reading → Type 0
        Goal R R' = Grown w s.waiting s.room (receive p R k s n) (receive p R' h (fed u s) m)

        over : (v : Bool) → w ≡ v → finds q s.waiting ≡ Wait → Goal Wait (finds q (s.waiting ++ u))
        over true e f = record { extends = rw e tt; fits = (halts w u at_wait s tt).fits; known = tt }
        over false e f = rw (same e, append-nil s.waiting, f) (halts w u at_wait s tt)

        by-stays : Stays s.waiting (finds q s.waiting) (finds q (s.waiting ++ u)) → Goal (finds q s.waiting) (finds q (s.waiting ++ u))
        by-stays (inl e) = rw e (over w refl e)
        by-stays (inr e) = rw e.0 (got_f p (finds q s.waiting) K s n m l j e.1)

  body_once : (g : ℕ) (F : Functions) (c : Block) (v : Ways) (k : Rest) (s : State) → body g F c v k s 0 ≡ running
  unfolding body
  body_once g F (block p ss) v k s = refl

  rounds_once : (g : ℕ) (D : Rest → Rest) → ((k : Rest) (s : State) → D k s 0 ≡ running) → (s : State) → rounds g D s 0 ≡ running
  unfolding rounds
  rounds_once zero D Z s = refl
  rounds_once (suc g) D Z s = Z (rounds g D) s

  -- each round enters a block, so a bound of b rounds is enough for b entries
  rounds_f : (b g i : ℕ) → b ≤ g → b ≤ i → (D E : Rest → Rest) → ((k : Rest) (s : State) → D k s 0 ≡ running) → ((c : ℕ) (k h : Rest) → suc c ≤ b → Follows c k h → Follows (suc c) (D k) (E h)) → Follows b (rounds g D) (rounds i E)
  unfolding rounds
  rounds_f zero g i l m D E Z H = at_once (rounds_once g D Z)
  rounds_f (suc b) zero i l m D E Z H = absurd (omega arith)
  rounds_f (suc b) (suc g) zero l m D E Z H = absurd (omega arith)
  rounds_f (suc b) (suc g) (suc i) l m D E Z H =
      record { go = (H b (rounds g D) (rounds i E) (omega arith) (rounds_f b g i (omega arith) (omega arith) D E Z (λ c k h q. H c k h (omega arith)))).go }

  module _ {B : ℕ} {F G : Functions} (FG : FollowsF B F G) where
    activate_f : {b : ℕ} → b ≤ B → (p f : ℕ) (vs : List ℤ) {k h : ℤ → Rest} → ((v : ℤ) → Follows b (k v) (h v)) → Follows b (activate F p f vs k) (activate G p f vs h)
    activate_f {b} l p f vs {k} {h} K =
        record {
          go = λ s n m i j. either s.waiting s.room (ltb (activations s) most_activations) _ _ _ _
              (λ e. (FG b f vs k h l K).go s n m i j) (halts w u (at_fault too_deep p) s (lit≤ tt, lit≤ tt));
        }

    mutual
      unfolding expression

      expression_f : (e : Expr) {b : ℕ} {k h : ℤ → Rest} → b ≤ B → ((v : ℤ) → Follows b (k v) (h v)) → Follows b (expression F e k) (expression G e h)
      expression_f (constant p kind v) l K = enters (K (pos v))
      expression_f (variable p whose x kind) l K = enters (get_f whose x K)
      expression_f (unary p o e) l K = enters (expression_f e l (λ v. K (apply_unary o v)))
      expression_f (binary p o kind e f) l K = enters (expression_f e l (λ x. expression_f f l (λ y. result_f p (apply_binary o kind x y) K)))
      expression_f (call p f kind es) l K = enters (arguments_f es l (λ vs. activate_f l p f vs K))
      expression_f (read p q) l K = enters (record { go = read_f p q K })

      arguments_f : (es : Args) {b : ℕ} {k h : List ℤ → Rest} → b ≤ B → ((vs : List ℤ) → Follows b (k vs) (h vs)) → Follows b (arguments F es k) (arguments G es h)
      arguments_f none l K = K []
      arguments_f (more e es) l K = expression_f e l (λ v. arguments_f es l (λ vs. K (v ∷ vs)))

    condition_f : (c : Cond) {b : ℕ} {k h k' h' : Rest} → b ≤ B → Follows b k h → Follows b k' h' → Follows b (condition F c k k') (condition G c h h')
    unfolding condition
    condition_f (compare p o kind e f) l K K' = enters (expression_f e l (λ x. expression_f f l (λ y. cond_f (compares o x y) K K')))
    condition_f (negate p c) l K K' = enters (condition_f c l K' K)
    condition_f (join p And c d) l K K' = enters (condition_f c l (condition_f d l K K') K')
    condition_f (join p Or c d) l K K' = enters (condition_f c l K (condition_f d l K K'))
    condition_f (holds p e) l K K' = enters (expression_f e l (λ x. cond_f (is_true x) K K'))

    module _ {g i : ℕ} (l : B ≤ g) (m : B ≤ i) where
      mutual
        unfolding statement

        statement_f : (c : Stmt) {b : ℕ} {v z : Ways} {k h : Rest} → b ≤ B → FollowsW b v z → Follows b k h → Follows b (statement g F c v k) (statement i G c z h)
        statement_f (skip p) q W K = enters K
        statement_f (assign p whose x kind e) q W K = enters (expression_f e q (λ v. put_f whose x v K))
        statement_f (perform p f es) q W K = enters (arguments_f es q (λ vs. activate_f q p f vs (λ v. K)))
        statement_f (if p c a) q W K = enters (condition_f c q (less (omega arith) (body_f a q W K)) K)
        statement_f (if_else p c a d) q W K = enters (condition_f c q (less (omega arith) (body_f a q W K)) (less (omega arith) (body_f d q W K)))
        statement_f (loop p name a) {b} q W K =
            enters (rounds_f b g i (omega arith) (omega arith) _ _ (λ r. body_once g F a _ r)
            (λ c r t y R. body_f a (omega arith) (in_loop_f name (less (omega arith) K) R (less_w (omega arith) W)) R))
        statement_f (break p name) q W K = enters (W.behind name)
        statement_f (continue p name) q W K = enters (W.again name)
        statement_f (exit p) q W K = enters (W.close (pos 0))
        statement_f (return p e) q W K = enters (expression_f e q W.close)
        statement_f (write p f e) q W K = enters (expression_f e q (λ v. send_f p (text_of f v) K))

        body_f : (c : Block) {b : ℕ} {v z : Ways} {k h : Rest} → b ≤ B → FollowsW b v z → Follows b k h → Follows (suc b) (body g F c v k) (body i G c z h)
        body_f (block p ss) q W K = deeper (statements_f ss q W K)

        statements_f : (c : Stmts) {b : ℕ} {v z : Ways} {k h : Rest} → b ≤ B → FollowsW b v z → Follows b k h → Follows b (statements g F c v k) (statements i G c z h)
        statements_f done q W K = K
        statements_f (next c cs) q W K = statement_f c q W (statements_f cs q W K)

      whole_f : (f : Function) {b : ℕ} {k h : ℤ → Rest} → b ≤ B → ((v : ℤ) → Follows b (k v) (h v)) → Follows (suc b) (whole_body g F f k) (whole_body i G f h)
      whole_f f q K = body_f f.body q (ways_f K) (end_f f.signature.result (place_of f.body) K)

  functions_once : (P : Program) (g f : ℕ) (vs : List ℤ) (k : ℤ → Rest) (s : State) → functions P g f vs k s 0 ≡ running
  unfolding functions
  functions_once P zero f vs k s = refl
  functions_once P (suc g) f vs k s = body_once (suc g) (functions P g) (function_at P f).body _ _ _

  -- each call enters a block, so a bound of b calls is enough for b entries
  functions_f : (P : Program) (b g i : ℕ) → b ≤ g → b ≤ i → FollowsF b (functions P g) (functions P i)
  unfolding functions
  functions_f P b g i l m zero f vs k h q K = at_once (functions_once P g f vs k)
  functions_f P zero g i l m (suc c) f vs k h q K = absurd (omega arith)
  functions_f P (suc b) zero i l m (suc c) f vs k h q K = absurd (omega arith)
  functions_f P (suc b) (suc g) zero l m (suc c) f vs k h q K = absurd (omega arith)
  functions_f P (suc b) (suc g) (suc i) l m (suc c) f vs k h q K =
      record {
        go = λ s. (whole_f (functions_f P b g i (omega arith) (omega arith)) (omega arith) (omega arith) (function_at P f) (omega arith)
            (caller_f (λ v. less (omega arith) (K v)))).go (opened (variables_for (function_at P f) vs) s);
      }

  -- the whole program, under two bounds that are at least the entries
  pub walks : (P : Program) (s : State) (g i n m : ℕ) → n ≤ g → n ≤ i → n ≤ m → Grown w s.waiting s.room (walk P g s n) (walk P i (fed u s) m)
  unfolding walk
  walks P s g i n m l j h =
      (whole_f {B = n} (functions_f P n g i (omega arith) (omega arith)) (omega arith) (omega arith) (function_at P 0) {b = n} (omega arith)
      (λ v. halt_f at_end tt)).go s n m (omega arith) h
