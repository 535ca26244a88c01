-- A point of the code as `rules` has it, and how far its coordinates lie from zero.
use Rattle.std.specs.Prelude.{◌≡◌, true, ◌&&◌, ℕ}
use Rattle.rules.specs.Points as rules
use Rattle.rules.specs.Laws.Truth.{and_first, and_second}
use Rattle.volume.specs.declared.Point.{Point}
use Rattle.volume.specs.Bound.{Within, grid_most, in_range_lem}

abbrev pub meant : Point → rules.Point
meant p = record { x = p.x; y = p.y; z = p.z }

-- each coordinate is at most k from zero
pub record Near (k : ℕ) (p : Point) : Type 0 where
  pub x : Within k p.x
  pub y : Within k p.y
  pub z : Within k p.z

pub on_grid_near : (p : Point) → rules.on_grid (meant p) ≡ true → Near grid_most p
unfolding rules.on_grid
on_grid_near p e =
    let xy = and_first (rules.in_range p.x && rules.in_range p.y) (rules.in_range p.z) e in
    record {
      x = in_range_lem p.x (and_first (rules.in_range p.x) (rules.in_range p.y) xy);
      y = in_range_lem p.y (and_second (rules.in_range p.x) (rules.in_range p.y) xy);
      z = in_range_lem p.z (and_second (rules.in_range p.x && rules.in_range p.y) (rules.in_range p.z) e);
    }
