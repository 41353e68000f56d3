-- Three numbers beside one flag.
use Rattle.std.proofs.Common.{◌≡◌, refl, Bool, true, false, ◌&&◌, ◌||◌, ltb, eqb}
use mathlib.Core.Bool.{and-true, and-false}
use Rattle.tracker_array.specs.Place as P
use Rattle.tracker_array.specs.Array.{is_on}
use Rattle.tracker_array.specs.Read.{place}
use Rattle.tracker_array.proofs.test.tdh.Goals as goal

three : (flag a b c x y z : Bool)
    → ((a && (flag || x)) && ((b && (flag || y)) && (c && (flag || z))))
    ≡ (a && (b && (c && (flag || (x && (y && z))))))
three true a b c x y z = simp and-true
three false false b c x y z = refl
three false true false c x y z = simp and-false
three false true true false x y z = simp and-false
three false true true true x y z = refl

pub returns : goal.returns
returns c =
    let l = c.args.a.now in
    simp (c.fits.ensures, c.fits-2.ensures, c.fits-3.ensures)
    (three (is_on (place l P.tdh)) (ltb (place l P.tdh_trigger) 0x1000) (ltb (place l P.tdh_bc) 0x1000)
    (ltb (place l P.tdh_orbit) 0x100000000) (eqb (place l P.tdh_trigger) 0) (eqb (place l P.tdh_bc) 0)
    (eqb (place l P.tdh_orbit) 0))
