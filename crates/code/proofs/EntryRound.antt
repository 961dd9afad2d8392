-- An entry and its word determine each other.
use Rattle.std.proofs.Common.{◌≡◌, ℕ, ◌+◌, ◌*◌, ◌/◌, ◌%◌, ◌<◌, ◌≤◌, true, false, ◌&&◌, eqb, leb, List, get_or, Some, None, Option, sym, refl, arith}
use Rattle.std.proofs.lemmas.Bool.Decides.{nat_tests}
use Rattle.std.specs.Int.{w32, to_be_bytes}
use Rattle.std.proofs.lemmas.Option.{same_Some}
use Rattle.table.proofs.Cases.{either}
use Rattle.table.specs.Numbers.{result_number, result_of}
use Rattle.table.specs.declared.shape.Kind.{Kind}
use Rattle.table.specs.declared.shape.Kind.TheVariants.{Int, Byte}
use Rattle.code.specs.Entries.{entry_word, entry_fits, with_result, entry_from, entry_of, EntryReadAgain, EntryWrittenAgain}
use Rattle.code.specs.declared.instruction.Entry.{Entry}

-- a word of given fields
module _ (r p n a w : ℕ) (rs : r < 4) (ps : p ≤ 8) (ns : n ≤ 32) (among : p ≤ n) (at : a < 65536) (e : w ≡ r * 1073741824 + p * 67108864 + n * 1048576 + a) where
  result_is : w / 1073741824 ≡ r
  result_is = omega arith

  parameters_are : w / 67108864 % 16 ≡ p
  parameters_are = omega arith

  variables_are : w / 1048576 % 64 ≡ n
  variables_are = omega arith

  address_is : w % 65536 ≡ a
  address_is = omega arith

  rest_is : w / 65536 % 16 ≡ 0
  rest_is = omega arith

  high_is : w / 4294967296 ≡ 0
  high_is = omega arith

  fits-there : entry_fits w ≡ true
  fits-there =
      let t : (leb p 8 && (leb n 32 && leb p n)) ≡ true = grind (arith, nat_tests) in
      rw (high_is, parameters_are, variables_are, rest_is) (grind (arith, nat_tests))

result-there : (r : Option Kind) → result_of (result_number r) ≡ Some r
result-there None = refl
result-there (Some Int) = refl
result-there (Some Byte) = refl

result-small : (r : Option Kind) → result_number r < 4
result-small None = omega arith
result-small (Some Int) = omega arith
result-small (Some Byte) = omega arith

result_back : (f : ℕ) (r : Option Kind) → result_of f ≡ Some r → f ≡ result_number r
result_back f r h = grind (arith, nat_tests)

pub entry-read-again : (e : Entry) (w : ℕ) → w ≡ entry_word e → EntryReadAgain e w
unfolding entry_word entry_of
entry-read-again e w h f =
    let s = result-small e.result in
    let t = fits-there (result_number e.result) e.parameters e.variables e.address w s f.parameters f.variables f.among f.address h in
    let r = result_is (result_number e.result) e.parameters e.variables e.address w s f.parameters f.variables f.among f.address h in
    let p = parameters_are (result_number e.result) e.parameters e.variables e.address w s f.parameters f.variables f.among f.address h in
    let n = variables_are (result_number e.result) e.parameters e.variables e.address w s f.parameters f.variables f.among f.address h in
    let a = address_is (result_number e.result) e.parameters e.variables e.address w s f.parameters f.variables f.among f.address h in
    rw t (rw (r, p, n, a) (rw (result-there e.result) refl))

record Rest (w : ℕ) : Type 0 where
  high : w / 4294967296 ≡ 0
  parameters : w / 67108864 % 16 ≤ 8
  variables : w / 1048576 % 64 ≤ 32
  among : w / 67108864 % 16 ≤ w / 1048576 % 64
  spare : w / 65536 % 16 ≡ 0

rest_back : (w : ℕ) → entry_fits w ≡ true → Rest w
rest_back w h = record { high = grind (arith, nat_tests); parameters = grind (arith, nat_tests); variables = grind (arith, nat_tests); among = grind (arith, nat_tests); spare = grind (arith, nat_tests) }

pub entry_none : (w : ℕ) → 4294967296 ≤ w → None ≡ entry_of w
unfolding entry_of
entry_none w h = let e : eqb (w / 4294967296) 0 ≡ false = grind (arith, nat_tests) in rw e refl

pub entry_by_fields : (w : ℕ) → w < 4294967296 →
    entry_from (w / 1073741824) (w / 67108864 % 16) (w / 1048576 % 64) (w / 65536 % 16) (w % 65536) ≡ entry_of w
unfolding entry_of
entry_by_fields w h = let e : w / 4294967296 ≡ 0 = omega arith in rw e refl

abbrev pub entry : Option Kind → ℕ → Entry
entry r w = record { result = r; parameters = w / 67108864 % 16; variables = w / 1048576 % 64; address = w % 65536 }

-- the fields by the bytes of a word of 32 bits
pub entry_by_bytes : (w v a : ℕ) (bs : List ℕ) → v ≡ w → v < 4294967296 → bs ≡ to_be_bytes w32 v → a ≡ get_or bs 2 0 * 256 + get_or bs 3 0 →
    entry_from (get_or bs 0 0 / 64) (get_or bs 0 0 / 4 % 16) (get_or bs 0 0 % 4 * 16 + get_or bs 1 0 / 16) (get_or bs 1 0 % 16) a ≡ entry_of w
entry_by_bytes w v a bs e h q p =
    rw p (rw q (rw (e, result_byte, parameters_byte, variables_bytes, spare_byte, address_bytes) (entry_by_fields w (omega arith))))
  where
    result_byte : w / 16777216 % 256 / 64 ≡ w / 1073741824
    result_byte = omega arith

    parameters_byte : w / 16777216 % 256 / 4 % 16 ≡ w / 67108864 % 16
    parameters_byte = omega arith

    variables_bytes : w / 16777216 % 256 % 4 * 16 + w / 65536 % 256 / 16 ≡ w / 1048576 % 64
    variables_bytes = omega arith

    spare_byte : w / 65536 % 256 % 16 ≡ w / 65536 % 16
    spare_byte = omega arith

    address_bytes : w / 256 % 256 * 256 + w % 256 ≡ w % 65536
    address_bytes = omega arith

-- the fields of a word without spare bits, put together again
together : (w : ℕ) → w / 65536 % 16 ≡ 0 → w / 1073741824 * 1073741824 + w / 67108864 % 16 * 67108864 + w / 1048576 % 64 * 1048576 + w % 65536 ≡ w
together w h =
    let a : w / 1048576 ≡ w / 65536 / 16 = omega arith in
    let b : w / 67108864 ≡ w / 1048576 / 64 = omega arith in
    let c : w / 1073741824 ≡ w / 67108864 / 16 = omega arith in
    let x : w / 67108864 ≡ w / 1073741824 * 16 + w / 67108864 % 16 = omega (arith, c) in
    let y : w / 1048576 ≡ w / 67108864 * 64 + w / 1048576 % 64 = omega (arith, b) in
    let z : w ≡ w / 1048576 * 1048576 + w % 65536 = omega (arith, a, h) in
    glue w (w / 1048576) (w / 67108864) (w / 1073741824) (w / 1048576 % 64) (w / 67108864 % 16) (w % 65536) x y z
  where
    glue : (w q p r n m a : ℕ) → p ≡ r * 16 + m → q ≡ p * 64 + n → w ≡ q * 1048576 + a → r * 1073741824 + m * 67108864 + n * 1048576 + a ≡ w
    glue w q p r n m a x y z = omega arith

entry_back : (w : ℕ) (e : Entry) → entry_of w ≡ Some e → EntryWrittenAgain w (Some e)
unfolding entry_of entry_word
entry_back w e =
    either (entry_fits w) _ _ e
    (λ f. with_back (result_of (w / 1073741824)) refl (rest_back w f))
    (λ _ h. absurd (grind arith))
  where
    with_back : (o : Option (Option Kind)) → result_of (w / 1073741824) ≡ o → Rest w →
        with_result o (w / 67108864 % 16) (w / 1048576 % 64) (w % 65536) ≡ Some e → EntryWrittenAgain w (Some e)
    with_back None q b h = absurd (grind arith)
    with_back (Some r) q b h =
        let p : entry r w ≡ e = same_Some _ _ h in
        let k = result_back (w / 1073741824) r q in
        rw (← p) (record { parameters = b.parameters; among = b.among; variables = b.variables; address = omega arith }, rw (← k) (together w b.spare))

pub entry_written_again : (w : ℕ) (r : Option Entry) → r ≡ entry_of w → EntryWrittenAgain w r
entry_written_again w None h = tt
entry_written_again w (Some e) h = entry_back w e (sym h)
