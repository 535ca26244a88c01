-- Skin, ring, clean. `inside r` says that row r is marked inside.
use Rattle.std.specs.Prelude.{ℕ, Bool, not, ◌&&◌, ◌||◌, List, map, eqb}
use Rattle.rules.specs.Below.{any, all, count, gather, only, pick}
use Rattle.rules.specs.Joined.{connected}
use Rattle.rules.specs.Shape.{facet}
use Rattle.rules.specs.Table.{Table, holds, side}

-- the triangle of row r that leaves out corner c is on the skin: it is in exactly one inside row
unfoldable pub on_skin : Table → (ℕ → Bool) → ℕ → ℕ → Bool
on_skin t inside r c = eqb (count t.rows (λ s. inside s && side t r c s)) 1

-- ---- far edges, by their ends

unfoldable pub different : ℕ → ℕ → ℕ → Bool
different v a b = not (eqb v a) && not (eqb v b) && not (eqb a b)

-- row s holds the ids v, a and b
unfoldable pub holds_three : Table → ℕ → ℕ → ℕ → ℕ → Bool
holds_three t v a b s = holds t s v && holds t s a && holds t s b

-- a b is a far edge of v: v, a and b are the ids of a skin triangle, one that is in exactly one inside row
unfoldable pub far_edge : Table → (ℕ → Bool) → ℕ → ℕ → ℕ → Bool
far_edge t inside v a b = different v a b && eqb (count t.rows (λ s. inside s && holds_three t v a b s)) 1

-- a is an end of a far edge of v
unfoldable pub far_end : Table → (ℕ → Bool) → ℕ → ℕ → ℕ → Bool
far_end t inside id_count v a = any id_count (far_edge t inside v a)

-- ---- one ring, clean

-- the far edges of v form one ring: each end lies on exactly two of them, and any two are joined through common ends
unfoldable pub one_ring : Table → (ℕ → Bool) → ℕ → ℕ → Bool
one_ring t inside id_count v =
    all id_count (λ a. not (far_end t inside id_count v a) || eqb (count id_count (far_edge t inside v a)) 2)
    && connected (far_edge t inside v) (pick id_count (far_end t inside id_count v))

-- v is on the skin: a skin triangle holds it
unfoldable pub skin_vertex : Table → (ℕ → Bool) → ℕ → ℕ → Bool
skin_vertex t inside id_count v = any id_count (far_end t inside id_count v)

-- a skin vertex without one ring
unfoldable pub ringless : Table → (ℕ → Bool) → ℕ → ℕ → Bool
ringless t inside id_count v = skin_vertex t inside id_count v && not (one_ring t inside id_count v)

unfoldable pub clean : Table → (ℕ → Bool) → ℕ → Bool
clean t inside id_count = not (any id_count (ringless t inside id_count))

-- ---- the skin list: by inside row, then left-out corner 0 to 3, with the ids of each triangle in the order that they are listed in

-- the ids rise
unfoldable pub triangle : Table → ℕ → ℕ → List ℕ
triangle t r c = map (t.id r) (facet t.corners c)

unfoldable pub skin_of : Table → (ℕ → Bool) → (ℕ → ℕ → List ℕ) → ℕ → List (List ℕ)
skin_of t inside ids r = gather t.corners (λ c. only (inside r && on_skin t inside r c) (ids r c))

unfoldable pub skin_as : Table → (ℕ → Bool) → (ℕ → ℕ → List ℕ) → List (List ℕ)
skin_as t inside ids = gather t.rows (skin_of t inside ids)

abbrev pub skin : Table → (ℕ → Bool) → List (List ℕ)
skin t inside = skin_as t inside (triangle t)
