-- Colours: what a list of them holds, the distance of two, and the ways between CIELAB and sRGB. Every operation is rounded once, in the order written.
-- Definitions only. Assumes nothing.
use Rattle.std.specs.Prelude.{ℕ, ◌+◌, ◌*◌, ◌≡◌, Bool, true, ◌&&◌, cond, List, [], ◌∷◌, get_or, Float}
use Rattle.std.specs.Float.{nan}
use Rattle.std.specs.Float.Ieee.{neg, lt, le}
use Rattle.std.specs.Float.Ieee.Positive.{num, den}
use Rattle.roots.specs.Root.{NearestRoot}
use Rattle.roots.specs.Computed.{sqrt_of, cbrt_of}
use Rattle.color.specs.declared.Lab.{Lab}
use Rattle.color.specs.declared.Rgb8.{Rgb8}
use Rattle.base.specs.Doubles.{◌⊕◌, ◌⊖◌, ◌⊗◌, ◌⊘◌, decimal}
use Rattle.channel.specs.Channel.{decode_of, byte_of}

-- the colour i of a list with three doubles for each colour
unfoldable pub entry : List Float → ℕ → Lab
entry list i = record { l = get_or list (3 * i) nan; a = get_or list (3 * i + 1) nan; b = get_or list (3 * i + 2) nan }

-- a part of a colour that is in range: from -1024 to 1024, and no NaN
unfoldable pub within : Float → Bool
within x = le (neg (decimal 1024 0)) x && le x (decimal 1024 0)

-- all parts of a colour are in range
pub record InRange (c : Lab) : Type 0 where
  pub light : within c.l ≡ true
  pub first : within c.a ≡ true
  pub second : within c.b ≡ true

-- ---- distance

-- three squares, summed left to right
unfoldable pub dist2 : Lab → Lab → Float
dist2 p q =
    let d0 = p.l ⊖ q.l in
    let d1 = p.a ⊖ q.a in
    let d2 = p.b ⊖ q.b in
    d0 ⊗ d0 ⊕ d1 ⊗ d1 ⊕ d2 ⊗ d2

-- the root of that
unfoldable pub distance : Lab → Lab → Float
distance p q = sqrt_of (dist2 p q)

-- for all colours in range that is the double nearest to the root of the sum
unfoldable pub DistanceNearest : Type 0
DistanceNearest = (p q : Lab) → InRange p → InRange q → NearestRoot 2 (num (dist2 p q)) (den (dist2 p q)) (distance p q)

-- ---- constants

-- linear sRGB to XYZ
unfoldable pub xyz_from_rgb : List (List Float)
xyz_from_rgb =
    (decimal 412453 6 ∷ decimal 357580 6 ∷ decimal 180423 6 ∷ [])
    ∷ (decimal 212671 6 ∷ decimal 715160 6 ∷ decimal 072169 6 ∷ [])
    ∷ (decimal 019334 6 ∷ decimal 119193 6 ∷ decimal 950227 6 ∷ [])
    ∷ []

-- XYZ to linear sRGB
unfoldable pub rgb_from_xyz : List (List Float)
rgb_from_xyz =
    (decimal 3_2404813432005266 16 ∷ neg (decimal 1_5371515162713183 16) ∷ neg (decimal 4985363261688878 16) ∷ [])
    ∷ (neg (decimal 9692549499965682 16) ∷ decimal 1_8759900014898907 16 ∷ decimal 04155592655829283 17 ∷ [])
    ∷ (decimal 055646639135177166 18 ∷ neg (decimal 20404133836651123 17) ∷ decimal 1_0573110696453443 16 ∷ [])
    ∷ []

-- the white D65 of the 2° observer
unfoldable pub white : List Float
white = decimal 95047 5 ∷ decimal 1 0 ∷ decimal 108883 5 ∷ []

-- up to this value the cube root gives way to a line, slope t + shift
unfoldable pub edge : Float
edge = decimal 8856 6

unfoldable pub slope : Float
slope = decimal 7787 3

unfoldable pub shift : Float
shift = decimal 16 0 ⊘ decimal 116 0

-- up to this value the cube gives way to that line's inverse
unfoldable pub edge_inv : Float
edge_inv = decimal 2068966 7

-- ---- conversions

-- v0 m0 + v1 m1 + v2 m2, summed left to right
unfoldable pub dot : List Float → List Float → Float
dot v m = get_or v 0 nan ⊗ get_or m 0 nan ⊕ get_or v 1 nan ⊗ get_or m 1 nan ⊕ get_or v 2 nan ⊗ get_or m 2 nan

-- that for each row m of a matrix
unfoldable pub mat_vec : List (List Float) → List Float → List Float
mat_vec m v = dot v (get_or m 0 []) ∷ dot v (get_or m 1 []) ∷ dot v (get_or m 2 []) ∷ []

-- CIELAB's function of a part of XYZ, and its inverse
unfoldable pub lab_f : Float → Float
lab_f t = cond (lt edge t) (cbrt_of t) (slope ⊗ t ⊕ shift)

unfoldable pub lab_f_inv : Float → Float
lab_f_inv t = cond (lt edge_inv t) (t ⊗ t ⊗ t) ((t ⊖ shift) ⊘ slope)

-- XYZ to CIELAB
unfoldable pub lab_of_xyz : List Float → Lab
lab_of_xyz v =
    let fx = lab_f (get_or v 0 nan ⊘ get_or white 0 nan) in
    let fy = lab_f (get_or v 1 nan ⊘ get_or white 1 nan) in
    let fz = lab_f (get_or v 2 nan ⊘ get_or white 2 nan) in
    record { l = decimal 116 0 ⊗ fy ⊖ decimal 16 0; a = decimal 500 0 ⊗ (fx ⊖ fy); b = decimal 200 0 ⊗ (fy ⊖ fz) }

-- CIELAB to XYZ; a z below 0 is taken for 0
unfoldable pub xyz_of_lab : Lab → List Float
xyz_of_lab c =
    let y = (c.l ⊕ decimal 16 0) ⊘ decimal 116 0 in
    let x = c.a ⊘ decimal 500 0 ⊕ y in
    let z = y ⊖ c.b ⊘ decimal 200 0 in
    let z0 = cond (lt z (decimal 0 0)) (decimal 0 0) z in
    lab_f_inv x ⊗ get_or white 0 nan ∷ lab_f_inv y ⊗ get_or white 1 nan ∷ lab_f_inv z0 ⊗ get_or white 2 nan ∷ []

-- sRGB to CIELAB, and back
unfoldable pub rgb8_to_lab : Rgb8 → Lab
rgb8_to_lab c = lab_of_xyz (mat_vec xyz_from_rgb (decode_of c.r ∷ decode_of c.g ∷ decode_of c.b ∷ []))

unfoldable pub lab_to_rgb8 : Lab → Rgb8
lab_to_rgb8 c =
    let v = mat_vec rgb_from_xyz (xyz_of_lab c) in
    record { r = byte_of (get_or v 0 nan); g = byte_of (get_or v 1 nan); b = byte_of (get_or v 2 nan) }
