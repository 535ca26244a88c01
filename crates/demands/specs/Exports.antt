-- Document 02 (vi) is kept: the file of a job's skin.
use Rattle.std.specs.Prelude.{◌≡◌, refl, ◌↔◌, ◌⊎◌, ◌≢◌, Bool, false, ltb, ℤ, pos, take, drop}
use Rattle.std.proofs.Common.{sym, ap₂, ◌∙◌, inl, inr, ⊎_elim, ne_eqb, ltb-true, ltb-false, lt-ltb, le-ltb}
use Rattle.std.proofs.Math.Path.{ap, subst}
use Rattle.std.proofs.Math.Bool.{true}
use Rattle.std.proofs.Math.Option.{some, none}
use mathlib.Core.List.{List, [], ◌++◌, map, flatten, append-nil}
use Prim.Native.Nat.{ℕ, zero, suc, ◌+◌, ◌*◌, ◌/◌, ◌%◌, ◌≤◌, ◌<◌}
use native.Mathlib.Omega.{arith}
use Rattle.std.proofs.Math.ListN.{length, get_or}
use Rattle.rules.specs.Below.{found}
use Rattle.rules.specs.First.{given, Verdict, first_match}
use Rattle.rules.specs.Points.{Point, point_in}
use Rattle.rules.specs.Outward.{triangle_as}
use Rattle.rules.specs.Proposals.{inside_in}
use Rattle.rules.specs.Job.{track, header_of, has_points, point_bytes, points_at, section, points_of, Job, job_of, final_of, Lent, written, Result, run}
use Rattle.rules.specs.Stl.{file_length, facets_of, file_of, write_facets, Read, read_file, coordinates, corners_of, outward_skin, skin_file, file_tests, unwritten, Exported, exported, write_skin}
use Rattle.rules.specs.Laws.Truth.{not_both, true_or_false, is_false, same_or_not}
use Rattle.rules.specs.Laws.First.{match_here, match_later, match_end}
use Rattle.rules.specs.Laws.Job.{job_corners}
use Rattle.rules.specs.Reading.Rows.{Holds}
use Rattle.rules.specs.Reading.Room.{skin_words}
use Rattle.rules.specs.Reading.Skin.{Inside}
use Rattle.rules.specs.Reading.Points.{InRange, OnGrid, grid_reads}
use Rattle.rules.specs.Reading.Outward.{listed_id, FacesOutward, three_each}
use Rattle.rules.specs.Reading.Codes.{with_points_reads, run_code_below, refusal_keeps, accepted_grid}
use Rattle.outward.specs.Row.{id_below}
use Rattle.outward.proofs.Outward.{as_rising}
use Rattle.job.specs.Reading.{header}
use Rattle.track.specs.Outcomes.{Outcome, result_of}
use Rattle.track.specs.Accepted.{job_accepted, job_closed, place_is}
use Rattle.track_stl.specs.Corners.{three_units, unit_before, unit_at_lem}
use Rattle.track_stl.specs.Ran.{told, outward_few, ran_is, triangles_told}
use Rattle.trips.proofs.Trips.{Writable, wrote_exactly, wrote_front, write_read}
use Rattle.demands.specs.Workshop.{corner_in, HasPoints, needed, Written, SkinFile}
use Rattle.demands.specs.Grown.{demand_2}
use Rattle.demands.specs.Outwards.{each_faces, each_passed}

-- ---- the units of triangles, one by one

module _ (at : ℕ → Point) where
  abbrev of : ℕ → List ℤ
  of v = coordinates (at v)

  corner_at_lem : (ids : List ℕ) (rest : List ℤ) (k j : ℕ) → 3 * k + j < length ids → corner_in (flatten (map of ids) ++ rest) k j ≡ at (listed_id ids k j)
  unfolding coordinates
  corner_at_lem ids rest k j l =
      let i = 3 * k + j in
      let zeroth : 9 * k + 3 * j ≡ 3 * i + 0 = omega arith in
      let first : 9 * k + 3 * j + 1 ≡ 3 * i + 1 = omega arith in
      let second : 9 * k + 3 * j + 2 ≡ 3 * i + 2 = omega arith in
      rw (first, second, zeroth, unit_before at ids rest i 0 l (omega arith), unit_before at ids rest i 1 l (omega arith), unit_before at ids rest i 2 l (omega arith))

coordinate_on : (p : Point) → OnGrid p → (c : ℕ) → c < 3 → InRange (get_or (coordinates p) c (pos 0))
unfolding coordinates
coordinate_on p ((x, y), z) zero l = x
coordinate_on p ((x, y), z) (suc zero) l = y
coordinate_on p ((x, y), z) (suc (suc zero)) l = z
coordinate_on p ((x, y), z) (suc (suc (suc c))) l = absurd (omega arith)

-- ---- the file of a run that was accepted, where there are points and room

module _ (bytes : List ℕ) (before : Lent) (file : List ℕ) {o : Outcome} {after : Lent} {file_left : List ℕ} (same : result_of o after ≡ run track bytes before) (zero_code : o.code ≡ 0)
    (at : ℕ → Point) (points : (job_of track bytes).points ≡ some at) (room : needed bytes ≤ length file) (left_is : file_left ≡ written (skin_file (job_of track bytes)) file) where
  abbrev the : Job
  the = job_of track bytes

  abbrev listed : List ℕ
  listed = flatten (outward_skin the)

  abbrev units : List ℤ
  units = corners_of at (outward_skin the)

  four : the.table.corners ≡ 4
  four = job_corners track bytes

  ids_long : length listed ≡ 3 * o.triangles
  ids_long =
      skin_words the.table (inside_in (final_of the)) (triangle_as the.table true the.points) (three_each the.table true the.points four)
      ∙ ap (λ (n : ℕ). 3 * n) (sym (triangles_told bytes before same zero_code))

  units_long : length units ≡ 9 * o.triangles
  unfolding corners_of
  units_long = omega (arith, three_units at listed, ids_long)

  facets_are : facets_of units ≡ o.triangles
  unfolding facets_of
  facets_are = omega (arith, units_long)

  outward_each : (k : ℕ) → k < o.triangles → FacesOutward the.table at (Inside (final_of the)) (listed_id listed k 0) (listed_id listed k 1) (listed_id listed k 2)
  outward_each = each_faces bytes before same zero_code at points listed [] (sym (append-nil listed))

  -- every number is on the grid
  id_on : (k j : ℕ) → k < o.triangles → j < 3 → listed_id listed k j < the.ids
  id_on k j l m = go j m
    where
      f : FacesOutward the.table at (Inside (final_of the)) (listed_id listed k 0) (listed_id listed k 1) (listed_id listed k 2)
      f = outward_each k l

      below : {v : ℕ} → Holds the.table f.in_row v → v < the.ids
      below = id_below the.table four (job_closed bytes before same zero_code).paired f.in_below

      go : (j : ℕ) → j < 3 → listed_id listed k j < the.ids
      go zero m = below f.in_holds.0
      go (suc zero) m = below f.in_holds.1
      go (suc (suc zero)) m = below f.in_holds.2
      go (suc (suc (suc j))) m = absurd (omega arith)

  point_on : (q : ℕ) → q < length listed → OnGrid (at (get_or listed q 0))
  point_on q l =
      let split : 3 * (q / 3) + q % 3 ≡ q = omega arith in
      let below = subst (λ (n : ℕ). get_or listed n 0 < the.ids) split (id_on (q / 3) (q % 3) (omega (arith, ids_long)) (omega arith)) in
      (grid_reads (at (get_or listed q 0))).0 (accepted_grid track bytes before (job_accepted bytes before same zero_code) at points (get_or listed q 0) below)

  number_on : (i : ℕ) → i < length units → InRange (get_or units i (pos 0))
  unfolding corners_of
  number_on i l =
      let below : i / 3 < length listed = omega (arith, units_long, ids_long) in
      let split : 3 * (i / 3) + i % 3 ≡ i = omega arith in
      subst InRange
      (sym (unit_at_lem at listed (i / 3) (i % 3) below (omega arith)) ∙ ap (λ (n : ℕ). get_or units n (pos 0)) split)
      (coordinate_on (at (get_or listed (i / 3) 0)) (point_on (i / 3) below) (i % 3) (omega arith))

  writable : Writable units (length file)
  writable = record {
    whole = omega (arith, units_long);
    few = rw facets_are (omega (arith, outward_few (ran_is bytes before same zero_code {h = header bytes} refl), triangles_told bytes before same zero_code));
    on = number_on;
    roomy = rw facets_are (omega (arith, room, (demand_2 bytes before same zero_code).triangles_counted));
  }

  front_is : file_left ≡ written (file_of units) file
  unfolding skin_file
  front_is = left_is ∙ rw points

  wrote_zero : (write_facets units file).verdict.code ≡ 0
  unfolding write_facets
  wrote_zero = (wrote_exactly units (length file)).1 writable

  file_is : take (file_length o.triangles) file_left ≡ file_of units
  file_is =
      let (left, front) = wrote_front units file wrote_zero in
      ap₂ take (ap (λ (n : ℕ). file_length n) (sym facets_are)) (front_is ∙ sym left) ∙ front

  read_is : (lent : List ℤ) → 9 * o.triangles ≤ length lent
      → read_file (take (file_length o.triangles) file_left) lent ≡ record { verdict = record { code = 0; place = 0 }; facets = facets_of units; off = none; left = written units lent }
  read_is lent l = ap (λ (xs : List ℕ). read_file xs lent) file_is ∙ write_read units file wrote_zero lent (omega (arith, units_long))

  skin_written : Written bytes before file o after file_left at
  unfolding corners_of written
  skin_written = record {
    front = front_is;
    as_rising = as_rising the.table true the.points four (inside_in (final_of the));
    taken_back = λ lent l. (ap (λ (r : Read). r.verdict.code) (read_is lent l), ap (λ (r : Read). r.facets) (read_is lent l) ∙ facets_are);
    corners_back = λ lent l k j lk lj.
        ap (λ (r : Read). corner_in r.left k j) (read_is lent l) ∙ corner_at_lem at listed (drop (length units) lent) k j (omega (arith, ids_long));
    faces_outward = outward_each;
    each_way = each_passed bytes before same zero_code at points listed [] (sym (append-nil listed));
  }

module _ (bytes : List ℕ) (before : Lent) (file : List ℕ) {o : Outcome} {after : Lent} {file_left : List ℕ}
    (is : told o after file_left ≡ write_skin track bytes before file) where
  abbrev job : Job
  job = job_of track bytes

  abbrev ran : Result
  ran = run track bytes before

  -- ---- the four ways it can go

  abbrev NoPoints : Type 0
  NoPoints = (ran.code ≡ 0) × (HasPoints bytes → ⊥)

  abbrev Short : Type 0
  Short = (ran.code ≡ 0) × HasPoints bytes × (length file < needed bytes)

  abbrev Roomy : Type 0
  Roomy = (ran.code ≡ 0) × HasPoints bytes × (needed bytes ≤ length file)

  abbrev Way : Type 0
  Way = (ran.code ≢ 0) ⊎ (NoPoints ⊎ (Short ⊎ Roomy))

  pointed : (has_points track (header_of bytes) ≡ true) ↔ HasPoints bytes
  pointed = with_points_reads track (header_of bytes)

  way : Way
  way = ⊎_elim (λ z. inr (by_points z (true_or_false (has_points track (header_of bytes))))) inl (same_or_not ran.code 0)
    where
      by_room : ran.code ≡ 0 → HasPoints bytes → (b : Bool) → ltb (length file) (needed bytes) ≡ b → Short ⊎ Roomy
      by_room z p true e = inl (z, p, ltb-true (length file) (needed bytes) e)
      by_room z p false e = inr (z, p, ltb-false (length file) (needed bytes) e)

      by_points : ran.code ≡ 0 → (has_points track (header_of bytes) ≡ true) ⊎ (has_points track (header_of bytes) ≡ false) → NoPoints ⊎ (Short ⊎ Roomy)
      by_points z (inl on) = inr (by_room z (pointed.0 on) (ltb (length file) (needed bytes)) refl)
      by_points z (inr off) = inl (z, λ p. not_both (pointed.1 p) off)

  -- the number of triangles that an accepted run tells
  counted : ran.code ≡ 0 → file_length ran.triangles ≡ needed bytes
  counted z =
      let own : Outcome = record { code = ran.code; place = ran.place; taken = ran.taken; triangles = ran.triangles } in
      ap file_length (demand_2 bytes before {o = own} {after = ran.left} refl z).triangles_counted

  if_refused : ran.code ≢ 0 → told o after file_left ≡ record { result = ran; file = file }
  unfolding write_skin
  if_refused ne = is ∙ rw (ne_eqb ran.code 0 ne)

  accepted_is : ran.code ≡ 0 → told o after file_left ≡ exported track bytes ran file
  unfolding write_skin
  accepted_is z = is ∙ rw z

  -- what the tests of the file say
  abbrev verdict : Verdict
  verdict = first_match 20 (file_tests track bytes ran.triangles (length file))

  pointless : (HasPoints bytes → ⊥) → verdict ≡ record { code = 20; place = 0 }
  unfolding file_tests given found
  pointless off = match_here 20 _ _ 0 (rw (is_false (has_points track (header_of bytes)) (λ on. off (pointed.0 on))))

  short : HasPoints bytes → length file < file_length ran.triangles → verdict ≡ record { code = 21; place = 0 }
  unfolding file_tests given found
  short on l = match_later 20 _ _ (rw (pointed.1 on)) ∙ match_here 21 _ _ 0 (rw (lt-ltb (length file) (file_length ran.triangles) l))

  roomy : HasPoints bytes → file_length ran.triangles ≤ length file → verdict ≡ record { code = 0; place = 0 }
  unfolding file_tests given found
  roomy on l = match_later 20 _ _ (rw (pointed.1 on)) ∙ match_later 21 _ _ (rw (le-ltb (length file) (file_length ran.triangles) l)) ∙ match_end 22

  if_pointless : NoPoints → told o after file_left ≡ record { result = unwritten (record { code = 20; place = 0 }) ran.left; file = file }
  unfolding exported
  if_pointless (z, off) = accepted_is z ∙ rw (pointless off)

  if_short : Short → told o after file_left ≡ record { result = unwritten (record { code = 21; place = 0 }) ran.left; file = file }
  unfolding exported
  if_short (z, on, l) = accepted_is z ∙ rw (short on (rw (counted z) l))

  if_roomy : Roomy → told o after file_left ≡ record { result = ran; file = written (skin_file job) file }
  unfolding exported
  if_roomy (z, on, l) = accepted_is z ∙ rw (roomy on (rw (counted z) l))

  -- ---- all of it

  code_of : {x : Exported} → told o after file_left ≡ x → o.code ≡ x.result.code
  code_of e = ap (λ (y : Exported). y.result.code) e

  -- no two of them give the same code
  by_way : {A : Type 0} → (ran.code ≢ 0 → A) → (NoPoints → A) → (Short → A) → (Roomy → A) → A
  by_way a b c d = ⊎_elim a (⊎_elim b (⊎_elim c d)) way

  buffers_are : after ≡ ran.left
  unfolding unwritten
  buffers_are =
      let left : Exported → Lent = λ (y : Exported). y.result.left in
      by_way (λ r. ap left (if_refused r)) (λ p. ap left (if_pointless p)) (λ p. ap left (if_short p)) (λ p. ap left (if_roomy p))

  run_is : Roomy → result_of o after ≡ ran
  run_is p = ap (λ (y : Exported). y.result) (if_roomy p)

  twenty : (o.code ≡ 20) ↔ NoPoints
  unfolding unwritten
  twenty = (
    λ e. by_way (λ r. absurd (omega (arith, code_of (if_refused r), run_code_below track bytes before))) (λ p. p)
        (λ p. absurd (omega (arith, code_of (if_short p)))) (λ p. absurd (omega (arith, code_of (if_roomy p), p.0))),
    λ p. code_of (if_pointless p),
  )

  twenty_one : (o.code ≡ 21) ↔ Short
  unfolding unwritten
  twenty_one = (
    λ e. by_way (λ r. absurd (omega (arith, code_of (if_refused r), run_code_below track bytes before))) (λ p. absurd (omega (arith, code_of (if_pointless p))))
        (λ p. p) (λ p. absurd (omega (arith, code_of (if_roomy p), p.0))),
    λ p. code_of (if_short p),
  )

  none_given : (o.code ≡ 0) ↔ Roomy
  unfolding unwritten
  none_given = (
    λ e. by_way (λ r. absurd (r (sym (code_of (if_refused r)) ∙ e))) (λ p. absurd (omega (arith, code_of (if_pointless p))))
        (λ p. absurd (omega (arith, code_of (if_short p)))) (λ p. p),
    λ p. code_of (if_roomy p) ∙ p.0,
  )

  place_zero : ran.code ≡ 0 → o.place ≡ 0
  unfolding unwritten
  place_zero z =
      let place : Exported → ℕ = λ (y : Exported). y.result.place in
      by_way (λ r. absurd (r z)) (λ p. ap place (if_pointless p)) (λ p. ap place (if_short p)) (λ p. place_is bytes before (run_is p) (none_given.1 p))

  leaves : o.code ≢ 0 → (o.taken ≡ 0) × (o.triangles ≡ 0) × (file_left ≡ file)
  unfolding unwritten
  leaves ne =
      let taken : Exported → ℕ = λ (y : Exported). y.result.taken in
      let triangles : Exported → ℕ = λ (y : Exported). y.result.triangles in
      let bytes_left : Exported → List ℕ = λ (y : Exported). y.file in
      by_way
      (λ r.
      let (t, n, _, _, _) = refusal_keeps track bytes before r in
      (ap taken (if_refused r) ∙ t, ap triangles (if_refused r) ∙ n, ap bytes_left (if_refused r)))
      (λ p. (ap taken (if_pointless p), ap triangles (if_pointless p), ap bytes_left (if_pointless p)))
      (λ p. (ap taken (if_short p), ap triangles (if_short p), ap bytes_left (if_short p)))
      (λ p. absurd (ne (none_given.1 p)))

  points_at_lem : HasPoints bytes → (at : ℕ → Point) × (job.points ≡ some at)
  unfolding job_of points_of
  points_at_lem on = let h = header_of bytes in (point_in (section bytes (points_at track h) (point_bytes track h)), rw (pointed.1 on))

  pub skin_file_lem : SkinFile bytes before file o after file_left
  skin_file_lem = record {
    buffers = buffers_are;
    own_refusal = λ ne. (code_of (if_refused ne), ap (λ (y : Exported). y.result.place) (if_refused ne));
    no_points = twenty;
    short_room = twenty_one;
    accepted = none_given;
    place_zero = place_zero;
    refusal_leaves = leaves;
    returned = λ e. run_is (none_given.0 e);
    is_written = λ e.
        let p = none_given.0 e in
        let (at, points) = points_at_lem p.1 in
        (at, points, skin_written bytes before file (run_is p) e at points p.2 (ap (λ (y : Exported). y.file) (if_roomy p)));
  }
