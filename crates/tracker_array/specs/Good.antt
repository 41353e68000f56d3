-- What is known of numbers that are a tracker's. `GoodArray` is the invariant of an array: all that the calls on its numbers ask, and what they leave.
-- Assumes nothing.
use Rattle.std.specs.Prelude.{ℕ, ◌≤◌, ◌<◌, ◌^◌, ◌≡◌, true, List, length}
use Rattle.tracker_array.specs.Array.{size, IsTracker}
use Rattle.tracker_array.specs.Place as P
use Rattle.tracker_array.specs.Read.{place, tracker_in, in_form}

-- Numbers that have a tracker's form: the flags that other numbers hang on are 0 or 1.
pub record InForm (a : List ℕ) : Type 0 where
  pub long : length a ≡ size
  pub form : in_form a ≡ true
  pub frames : place a P.frames ≤ 1
  pub periodic : place a P.periodic ≤ 1
  pub ihw : place a P.ihw ≤ 1
  pub tdh : place a P.tdh ≤ 1
  pub internal : place a P.internal ≤ 1
  pub cdw : place a P.cdw ≤ 1
  pub opened : place a P.opened ≤ 1

-- As many numbers as a tracker has, and those that are read in fewer bits fit them.
pub record Fits (a : List ℕ) : Type 0 where
  pub long : length a ≡ size
  pub period : place a P.period < 2 ^ 32
  pub orbit : place a P.orbit < 2 ^ 32
  pub trigger : place a P.trigger < 2 ^ 32
  pub bc : place a P.bc < 2 ^ 16
  pub page : place a P.page < 2 ^ 16
  pub stop : place a P.stop < 2 ^ 8
  pub format : place a P.format < 2 ^ 8
  pub count : place a P.count < 2 ^ 16
  pub lanes : place a P.lanes < 2 ^ 32
  pub tdh_trigger : place a P.tdh_trigger < 2 ^ 16
  pub tdh_bc : place a P.tdh_bc < 2 ^ 16
  pub tdh_orbit : place a P.tdh_orbit < 2 ^ 32
  pub internal_bc : place a P.internal_bc < 2 ^ 16
  pub internal_orbit : place a P.internal_orbit < 2 ^ 32

-- The numbers are those of the tracker that they are read as. That they fit follows (`tracker_fits`), and is asked for wherever one is read.
pub record GoodArray (a : List ℕ) : Type 0 where
  pub is : IsTracker a (tracker_in a)
  pub fits : Fits a
