-- What a program's table says of its functions and nodes, and that nothing else says so.
use Rattle.std.specs.Prelude.{◌≡◌, ℕ, ◌+◌, ◌<◌, ◌≤◌, List, [], ◌∷◌, length, Some, None, Ok, slice_index}
use Rattle.std.specs.List.{AllByRecursion, slice_get}
use Rattle.table.specs.Fields.{layout_of, function_at}
use Rattle.table.specs.Shapes.{node_of}
use Rattle.table.specs.View.{View, node_at}
use Rattle.table.specs.declared.record.Header.{Header}
use Rattle.table.specs.declared.record.Function.{Function}
use Rattle.language.specs.Tree.{Signature, Program}
use Rattle.language.specs.Listing.{Placed, list_p}
use Rattle.language.specs.Rules.{FineSignature, signatures}
use Rattle.language.specs.Layout.{layout}
use Rattle.walk.specs.Bodies.{signature_of, signature_in, view_of}

-- these nodes are stored from place i on
abbrev pub Stored : View → ℕ → List Placed → Type 0
Stored v i [] = Unit {0}
Stored v i (x ∷ xs) = (i < v.nodes) × (node_at v i ≡ node_of x.1) × Stored v (i + 1) xs

-- main has no result and no parameters
abbrev pub Plain : List Signature → Type 0
Plain [] = ⊥
Plain (s ∷ ss) = (s.result ≡ None) × (s.parameters ≡ 0)

abbrev pub counts_of : Program → Header
counts_of P = record { functions = length P; nodes = length (list_p P) }

-- a program within the limits, whose table is to be read
pub record Limits (P : Program) : Type 0 where
  pub few : length P ≤ 32
  pub some : 0 < length (list_p P)
  pub short : length (list_p P) ≤ 8192
  pub fine : AllByRecursion FineSignature (signatures P)
  pub plain : Plain (signatures P)

-- its table is read as it
pub record Shown (P : Program) : Type 0 where
  pub header : layout_of (layout P) ≡ Ok (counts_of P)
  pub functions : (f : ℕ) → signature_in (view_of (layout P) (counts_of P)) f ≡ slice_get (signatures P) f
  pub nodes : Stored (view_of (layout P) (counts_of P)) 0 (list_p P)

abbrev pub LayoutsRead : Type 0
LayoutsRead = (P : Program) → Limits P → Shown P

-- bytes whose layout passes, and a program that has their functions and nodes
pub record Agrees (bs : List ℕ) (h : Header) (P : Program) : Type 0 where
  pub passes : layout_of bs ≡ Ok h
  pub many : length P ≡ h.functions
  pub functions : (f : ℕ) → signature_in (view_of bs h) f ≡ slice_get (signatures P) f
  pub long : length (list_p P) ≡ h.nodes
  pub nodes : Stored (view_of bs h) 0 (list_p P)

abbrev pub Bytes : List ℕ → Type 0
Bytes bs = (p : ℕ) → slice_index bs p < 256

-- they are its table
abbrev pub LayoutsWritten : Type 0
LayoutsWritten = (bs : List ℕ) (h : Header) (P : Program) → Bytes bs → Agrees bs h P → layout P ≡ bs

-- where the layout passes, every function has a record that keeps the limits, and main's is plain
pub record Recorded (bs : List ℕ) (f : ℕ) : Type 0 where
  pub function : Function
  pub there : function_at bs f ≡ Some function
  pub fine : FineSignature (signature_of function)
  pub plain : f ≡ 0 → ((signature_of function).result ≡ None) × ((signature_of function).parameters ≡ 0)

abbrev pub LayoutsRecorded : Type 0
LayoutsRecorded = (bs : List ℕ) (h : Header) → layout_of bs ≡ Ok h → (f : ℕ) → f < h.functions → Recorded bs f
