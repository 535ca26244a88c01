-- A buffer with a place in it: the room behind the place, and texts put there.
use Rattle.std.specs.Prelude.{◌≡◌, refl, List, [], ◌++◌, ℕ, ◌+◌, ◌≤◌, length}
use Rattle.std.proofs.Common.{◌∙◌, arith}
use Rattle.lines.specs.declared.text.Page.{Page}
use Rattle.lines.specs.Put.{Put, put_none, put_more, put_kept}

abbrev pub HasRoom : Page → ℕ → Type 0
HasRoom page n = page.at + n ≤ length page.out.now

-- the text was put into the same buffer, from the place on
pub record Puts (text : List ℕ) (before after : Page) : Type 0 where
  pub same : after.out.ghost_name ≡ before.out.ghost_name
  pub put : Put text before.out.now before.at after.out.now after.at

-- the place moved by so much at most, and the buffer is as long as before
abbrev pub TakesFew : ℕ → Page → Page → Type 0
TakesFew most before after = (after.at ≤ before.at + most) × (length after.out.now ≡ length before.out.now)

pub puts_more : {xs ys : List ℕ} {a b c : Page} → Puts xs a b → Puts ys b c → Puts (xs ++ ys) a c
puts_more p q = record { same = q.same ∙ p.same; put = put_more p.put q.put }

pub puts_few : {xs : List ℕ} {a b : Page} (n : ℕ) → Puts xs a b → length xs ≤ n → TakesFew n a b
puts_few n p l = (omega (arith, p.put.behind), put_kept p.put)

pub puts_none : (page : Page) → Puts [] page page
puts_none page = record { same = refl; put = put_none page.out.now page.at }

-- what a page that began at the front of a buffer leaves in it
pub puts_front : {xs d d' : List ℕ} {a b : Page} → Puts xs a b → a.out.now ≡ d → a.at ≡ 0 → d' ≡ b.out.now → Put xs d 0 d' b.at
puts_front p e z e' = rw (← e, ← z, e') p.put
