-- Node records, and nodes stored one after another.
use Rattle.std.proofs.Common.{◌≡◌, ℕ, zero, suc, ◌+◌, ◌*◌, ◌/◌, ◌%◌, ◌<◌, ◌≤◌, List, [], ◌∷◌, length, Some, refl, ap, ◌∙◌, arith}
use Rattle.std.specs.List.{slice_get}
use Rattle.table.specs.Fields.{byte_at, node_in}
use Rattle.table.specs.Shapes.{node_of}
use Rattle.table.specs.View.{View, node_at}
use Rattle.table.specs.declared.record.Node.{Node}
use Rattle.table.specs.declared.shape.Shape.{Shape}
use Rattle.language.specs.Listing.{Placed}
use Rattle.language.specs.Layout.{node_bytes}
use Rattle.layout.specs.Stored.{Stored, Bytes}
use Rattle.layout.proofs.Pieces.{At, at_each}

pub small-aux : (s : Shape) → (node_of s).aux < 4
small-aux s = grind arith

-- a record is a node's exactly if its bytes stand there
pub node-read : (bs : List ℕ) (q : ℕ) (n : Node) → n.aux < 4 → At bs q 3 (node_bytes n) → node_in bs q ≡ n
node-read bs q n a h =
    let z : byte_at bs (q + 0) ≡ byte_at bs q = ap (byte_at bs) (omega arith) in
    let b0 = h 0 (omega arith) in
    let b1 = h 1 (omega arith) in
    let b2 = h 2 (omega arith) in
    let k : byte_at bs q / 4 ≡ n.kind = omega arith in
    let x : byte_at bs q % 4 ≡ n.aux = omega arith in
    let o : byte_at bs (q + 1) * 256 + byte_at bs (q + 2) ≡ n.operand = omega arith in
    rw (k, x, o)

pub node_written : (bs : List ℕ) (q : ℕ) → Bytes bs → At bs q 3 (node_bytes (node_in bs q))
node_written bs q b =
    let z : byte_at bs (q + 0) ≡ byte_at bs q = ap (byte_at bs) (omega arith) in
    let b2 = b (q + 2) in
    at_each bs q 3 (node_bytes (node_in bs q)) (omega arith, (omega arith, (omega arith, tt)))

pub stored-from : (v : View) (k : ℕ) (xs : List Placed) → k + length xs ≤ v.nodes →
    ((i : ℕ) (x : Placed) → slice_get xs i ≡ Some x → node_at v (k + i) ≡ node_of x.1) → Stored v k xs
stored-from v k [] l h = tt
stored-from v k (x ∷ xs) l h =
    let e : k ≡ k + 0 = omega arith in (
      omega arith,
      ap (node_at v) e ∙ h 0 x refl,
      stored-from v (k + 1) xs (omega arith) (λ i y q.
          let m : k + 1 + i ≡ k + suc i = omega arith in
          ap (node_at v) m ∙ h (suc i) y q),
    )

pub stored_at : (v : View) (k : ℕ) (xs : List Placed) (i : ℕ) (x : Placed) → Stored v k xs → slice_get xs i ≡ Some x → node_at v (k + i) ≡ node_of x.1
stored_at v k [] i x s h = absurd (grind arith)
stored_at v k (y ∷ ys) zero x s h =
    let e : k + 0 ≡ k = omega arith in
    let q : y ≡ x = cc in
    ap (node_at v) e ∙ s.1 ∙ ap (λ z. node_of z.1) q
stored_at v k (y ∷ ys) (suc i) x s h =
    let m : k + suc i ≡ k + 1 + i = omega arith in
    ap (node_at v) m ∙ stored_at v (k + 1) ys i x s.2 h
