-- What is wrong with a facet.
use Rattle.std.specs.Prelude.{◌≡◌, ◌≤◌, ◌<◌, Bool, ◌&&◌, cond, List, ℕ, ◌+◌, ◌*◌, eqb, get_or, ℤ, Result, Ok, Err}
use Rattle.std.specs.Result.{result_and}
use Rattle.std.proofs.Math.Path.{refl, subst}
use Rattle.std.proofs.Common.{sym, ap, ◌∙◌, arith, eqb-true, eq-eqb}
use Rattle.std.proofs.Math.Bool.{true, false}
use Rattle.std.proofs.Math.Option.{Option, some, none}
use Rattle.rules.specs.Below.{lowest, any}
use Rattle.rules.specs.Words.{word}
use Rattle.rules.specs.Stl.{facet_at, blank, bits_off, units_of, bits_at, faulty, first_off}
use Rattle.rules.specs.Laws.Truth.{not_both, is_false, same_test, and_first, and_second, and_both}
use Rattle.rules.specs.Laws.Words.{word_zero}
use Rattle.rules.specs.Laws.Below.{lowest_is, lowest_none, any_here, any_some, searched_more, search_stops, search_ends}
use Rattle.grid.specs.Numbers.{stood, read}
use Rattle.grid.specs.declared.OffGrid.{OffGrid}
use Rattle.stl.specs.declared.reader.Refusal.{Refusal}
use Rattle.stl.specs.declared.reader.Refusal.TheVariants.{Length, Header, Room, NotZero, Off}

abbrev pub off : List ℕ → ℕ → ℕ → Bool
off bytes f k = bits_off (bits_at bytes f k)

-- the first number off the grid, as it stood
unfoldable pub number_fault : List ℕ → ℕ → Option ℕ → Result (Unit {0}) Refusal
number_fault bytes f (some k) = Err (Off (stood (bits_at bytes f k) f))
number_fault bytes f none = Ok tt

unfoldable pub facet_fault : List ℕ → ℕ → Result (Unit {0}) Refusal
facet_fault bytes f = cond (blank bytes f) (number_fault bytes f (lowest 9 (off bytes f))) (Err (NotZero f))

-- ---- a normal of three words and a u16 of two bytes

zero_parts : (a b : ℕ) (bytes : List ℕ) (place : ℕ) → eqb (word (a + b) bytes place) 0 ≡ (eqb (word a bytes place) 0 && eqb (word b bytes (place + a)) 0)
zero_parts a b bytes place =
    let whole = word (a + b) bytes place in
    let front = word a bytes place in
    let back = word b bytes (place + a) in
    let (forth, join) = word_zero a b bytes place in
    same_test (eqb whole 0) (eqb front 0 && eqb back 0)
    (λ t. let (p, q) = forth (eqb-true whole 0 t) in and_both (eq-eqb front 0 p) (eq-eqb back 0 q))
    (λ t. eq-eqb whole 0 (join (eqb-true front 0 (and_first (eqb front 0) (eqb back 0) t), eqb-true back 0 (and_second (eqb front 0) (eqb back 0) t))))

one_byte : (bytes : List ℕ) (place : ℕ) → word 1 bytes place ≡ get_or bytes place 0
unfolding word
one_byte bytes place = omega arith

five : (a b c d e : Bool) → ((((a && b) && c) && d) && e) ≡ ((a && (b && c)) && (d && e))
five true true true d e = refl
five true true false d e = refl
five true false c d e = refl
five false b c d e = refl

pub blank_parts : (bytes : List ℕ) (f : ℕ)
    → ((((eqb (word 4 bytes (facet_at f)) 0 && eqb (word 4 bytes (facet_at f + 4)) 0) && eqb (word 4 bytes (facet_at f + 8)) 0)
    && eqb (get_or bytes (facet_at f + 48) 0) 0) && eqb (get_or bytes (facet_at f + 49) 0) 0)
    ≡ blank bytes f
unfolding blank
blank_parts bytes f =
    let third : facet_at f + 4 + 4 ≡ facet_at f + 8 = omega arith in
    let last : facet_at f + 48 + 1 ≡ facet_at f + 49 = omega arith in
    rw (zero_parts 4 8 bytes (facet_at f), zero_parts 4 4 bytes (facet_at f + 4), zero_parts 1 1 bytes (facet_at f + 48), third, last, one_byte bytes (facet_at f + 48), one_byte bytes (facet_at f + 49))
    (five (eqb (word 4 bytes (facet_at f)) 0) (eqb (word 4 bytes (facet_at f + 4)) 0) (eqb (word 4 bytes (facet_at f + 8)) 0) (eqb (get_or bytes (facet_at f + 48) 0) 0) (eqb (get_or bytes (facet_at f + 49) 0) 0))

-- ---- the nine numbers of a facet, one after the other

-- what is answered to what a number says
off_told : Result ℤ OffGrid → Result (Unit {0}) Refusal
off_told (Ok u) = Ok tt
off_told (Err o) = Err (Off o)

is_off : Result ℤ OffGrid → Bool
is_off (Ok u) = false
is_off (Err o) = true

read_off : (bits facet : ℕ) → is_off (read bits facet) ≡ bits_off bits
unfolding is_off read
read_off bits facet = go (bits_off bits) refl
  where
    go : (b : Bool) → bits_off bits ≡ b → is_off (cond b (Err (stood bits facet)) (Ok (units_of bits))) ≡ b
    go true e = refl
    go false e = refl

module _ (bytes : List ℕ) (f k : ℕ) (before : lowest k (off bytes f) ≡ none) where
  number_goes : {u : ℤ} → Ok u ≡ read (bits_at bytes f k) f → lowest (k + 1) (off bytes f) ≡ none
  unfolding is_off
  number_goes e = searched_more k (off bytes f) before (sym (read_off (bits_at bytes f k) f) ∙ ap is_off (sym e))

  number_stops : {o : OffGrid} → Err o ≡ read (bits_at bytes f k) f → k < 9 → Err (Off o) ≡ number_fault bytes f (lowest 9 (off bytes f))
  unfolding is_off off_told number_fault read
  number_stops e l =
      let stops : off bytes f k ≡ true = sym (read_off (bits_at bytes f k) f) ∙ ap is_off (sym e) in
      ap off_told e ∙ rw (stops, search_stops 9 k (off bytes f) before l stops) refl

  numbers_end : 9 ≤ k → Ok tt ≡ number_fault bytes f (lowest 9 (off bytes f))
  unfolding number_fault
  numbers_end l = rw (search_ends 9 k (off bytes f) before l) refl

-- ---- the three corners of a facet, one after the other

-- what the first says, if it is off the grid, or else what the rest says
unfoldable pub then_rest : Result ℤ OffGrid → Result (Unit {0}) OffGrid → Result (Unit {0}) OffGrid
then_rest (Ok u) rest = rest
then_rest (Err o) rest = Err o

-- that a number is on the grid, or that it is off
abbrev pub was_read : Result ℤ OffGrid → Result (Unit {0}) OffGrid
was_read (Ok u) = Ok tt
was_read (Err o) = Err o

-- of three the first that is off decides
pub three_say : (x y z : Result ℤ OffGrid) → was_read (result_and (result_and x y) z) ≡ then_rest x (then_rest y (then_rest z (Ok tt)))
unfolding then_rest
three_say (Err o) y z = refl
three_say (Ok x) (Err o) z = refl
three_say (Ok x) (Ok y) (Err o) = refl
three_say (Ok x) (Ok y) (Ok z) = refl

-- the first number off the grid of corner c
unfoldable pub corner_fault : List ℕ → ℕ → ℕ → Result (Unit {0}) OffGrid
corner_fault bytes f c = then_rest (read (bits_at bytes f (3 * c)) f) (then_rest (read (bits_at bytes f (3 * c + 1)) f) (then_rest (read (bits_at bytes f (3 * c + 2)) f) (Ok tt)))

module _ (bytes : List ℕ) (f c : ℕ) (before : lowest (3 * c) (off bytes f) ≡ none) where
  -- what an answer to corner c says of the facet
  abbrev Says : Result (Unit {0}) OffGrid → Type 0
  Says (Ok _) = lowest (3 * (c + 1)) (off bytes f) ≡ none
  Says (Err o) = c < 3 → Err (Off o) ≡ number_fault bytes f (lowest 9 (off bytes f))

  then_says : (k next : ℕ) (rest : Result (Unit {0}) OffGrid) → k + 1 ≡ next → (c < 3 → k < 9) → lowest k (off bytes f) ≡ none → (lowest next (off bytes f) ≡ none → Says rest) → Says (then_rest (read (bits_at bytes f k) f) rest)
  unfolding then_rest
  then_says k next rest one within known goes = go (read (bits_at bytes f k) f) refl
    where
      go : (r : Result ℤ OffGrid) → r ≡ read (bits_at bytes f k) f → Says (then_rest r rest)
      go (Ok u) e = goes (subst (λ (n : ℕ). lowest n (off bytes f) ≡ none) one (number_goes bytes f k known e))
      go (Err o) e = λ l. number_stops bytes f k known e (within l)

  corner_says : Says (corner_fault bytes f c)
  unfolding corner_fault
  corner_says =
      then_says (3 * c) (3 * c + 1) _ refl (λ l. omega (arith, l)) before
      (λ first. then_says (3 * c + 1) (3 * c + 2) _ (omega arith) (λ l. omega (arith, l)) first (λ second. then_says (3 * c + 2) (3 * (c + 1)) (Ok tt) (omega arith) (λ l. omega (arith, l)) second (λ third. third)))

  pub corner_goes : Ok tt ≡ corner_fault bytes f c → lowest (3 * (c + 1)) (off bytes f) ≡ none
  corner_goes e = subst Says (sym e) corner_says

  pub corner_stops : {o : OffGrid} → Err o ≡ corner_fault bytes f c → c < 3 → Err (Off o) ≡ number_fault bytes f (lowest 9 (off bytes f))
  corner_stops e = subst Says (sym e) corner_says

  pub corners_end : 3 ≤ c → Ok tt ≡ number_fault bytes f (lowest 9 (off bytes f))
  corners_end l = numbers_end bytes f (3 * c) before (omega (arith, l))

-- ---- what a fault of a facet says

-- some number passes exactly if a lowest one does
any_lowest : (n : ℕ) (p : ℕ → Bool) (o : Option ℕ) → lowest n p ≡ o → any n p ≡ elim o [ some k ↦ true | none ↦ false ]
any_lowest n p (some k) e = let low = lowest_is n p k e in any_here n p k low.below low.passes
any_lowest n p none e = is_false (any n p) (λ t. let (k, l, q) = any_some n p t in not_both q (lowest_none n p e k l))

-- the facet at fault, as `rules` has it
pub record Astray (bytes : List ℕ) (f : ℕ) (o : OffGrid) : Type 0 where
  pub blank_is : blank bytes f ≡ true
  pub faulty_is : faulty bytes f ≡ true
  pub off_is : o ≡ stood (first_off bytes f) f

module _ (bytes : List ℕ) (f : ℕ) where
  abbrev Told : Result (Unit {0}) Refusal → Type 0
  Told (Ok _) = faulty bytes f ≡ false
  Told (Err (NotZero g)) = (g ≡ f) × (blank bytes f ≡ false) × (faulty bytes f ≡ true)
  Told (Err (Off o)) = Astray bytes f o
  Told (Err Length) = ⊥
  Told (Err Header) = ⊥
  Told (Err Room) = ⊥

  pub fault_told : {fault : Result (Unit {0}) Refusal} → fault ≡ facet_fault bytes f → Told fault
  unfolding faulty first_off facet_fault number_fault
  fault_told {fault} e = subst Told (sym e) (go (blank bytes f) refl (lowest 9 (off bytes f)) refl)
    where
      go : (b : Bool) → blank bytes f ≡ b → (o : Option ℕ) → lowest 9 (off bytes f) ≡ o → Told (cond (blank bytes f) (number_fault bytes f (lowest 9 (off bytes f))) (Err (NotZero f)))
      go true p (some k) q = rw (p, q) (record {
        blank_is = p;
        faulty_is = rw (p, any_lowest 9 (off bytes f) (some k) q);
        off_is = rw q refl;
      })
      go true p none q = rw (p, q) (rw (p, any_lowest 9 (off bytes f) none q))
      go false p o q = rw p (refl, p, rw p)

  pub refused_faulty : {refusal : Refusal} → Err refusal ≡ facet_fault bytes f → faulty bytes f ≡ true
  refused_faulty {refusal = NotZero g} e = (fault_told e).2
  refused_faulty {refusal = Off o} e = (fault_told e).faulty_is
  refused_faulty {refusal = Length} e = absurd (fault_told e)
  refused_faulty {refusal = Header} e = absurd (fault_told e)
  refused_faulty {refusal = Room} e = absurd (fault_told e)
