-- The header and the counts that it gives.
use Rattle.std.proofs.Common.{◌≡◌, ℕ, ◌+◌, ◌*◌, ◌/◌, ◌%◌, ◌<◌, true, List, length, Ok, subst, arith}
use Rattle.std.proofs.lemmas.Nat.{div-mul-add, mod-mul-add}
use Rattle.std.proofs.lemmas.Bool.Decides.{nat_tests}
use Rattle.table.specs.Fields.{byte_at, version, function_count, node_count, counts_hold, table_length, header_of}
use Rattle.table.specs.declared.record.Header.{Header}
use Rattle.language.specs.Layout.{header_bytes}
use Rattle.layout.specs.Stored.{Bytes}
use Rattle.layout.proofs.Pieces.{At, at_each}

-- what a header says that passes
pub record Heads (bs : List ℕ) (h : Header) : Type 0 where
  pub one : version bs ≡ 1
  pub functions : function_count bs ≡ h.functions
  pub nodes : node_count bs ≡ h.nodes
  pub hold : counts_hold h.functions h.nodes ≡ true
  pub long : length bs ≡ table_length h.functions h.nodes

pub header-there : (bs : List ℕ) (h : Header) → Heads bs h → header_of bs ≡ Ok h
header-there bs h w =
    rw (w.functions, w.nodes, w.hold) (grind (arith, nat_tests))

pub header_back : (bs : List ℕ) (h : Header) → header_of bs ≡ Ok h → Heads bs h
header_back bs h p = record { one = q.0; functions = q.1; nodes = q.2; hold = q.3; long = q.4 }
  where
    q : (version bs ≡ 1) × (function_count bs ≡ h.functions) × (node_count bs ≡ h.nodes) × (counts_hold h.functions h.nodes ≡ true) × (length bs ≡ table_length h.functions h.nodes)
    q = grind (arith, nat_tests)

pub header_written : (bs : List ℕ) (h : Header) → Bytes bs → Heads bs h → At bs 0 3 (header_bytes h.functions h.nodes)
header_written bs h b w =
    let t = three (byte_at bs 0) (byte_at bs 1) (byte_at bs 2) w.one (b 1) (b 2) in
    let e : header_bytes (function_count bs) (node_count bs) ≡ header_bytes h.functions h.nodes = cc (w.functions, w.nodes) in
    subst (At bs 0 3) e
    (at_each bs 0 3 (header_bytes (function_count bs) (node_count bs)) (t.0, (t.1, (t.2, tt))))
  where
    three : (a b c : ℕ) → a / 16 ≡ 1 → b < 256 → c < 256 →
        (a ≡ 16 + (a % 16 * 4 + b / 64) / 4) × (b ≡ (a % 16 * 4 + b / 64) % 4 * 64 + (b % 64 * 256 + c) / 256)
        × (c ≡ (b % 64 * 256 + c) % 256)
    three a b c e l m =
        let s : b / 64 < 4 = omega arith in
        let d = div-mul-add (a % 16) 4 (b / 64) s in
        let r = mod-mul-add (a % 16) 4 (b / 64) s in
        omega arith
