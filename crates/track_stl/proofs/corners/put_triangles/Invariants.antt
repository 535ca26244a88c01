use Rattle.rules.specs.Points.{point_in}
use Rattle.stl.specs.Filling.{Filled}
use Rattle.track_stl.specs.Corners.{triangle_facet, triangle_fifty}
use Rattle.track_stl.proofs.corners.put_triangles.Given as goal

abbrev pub invariant-loop-k : goal.invariant-loop-k
invariant-loop-k l = Filled l.count (triangle_facet (point_in l.placed.points.now) l.triangles) (triangle_fifty (point_in l.placed.points.now) l.triangles) l.initial.file l.k l.file
