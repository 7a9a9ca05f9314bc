-- The times that bytes show, where they are all there and keep the rules of their field (01, "The file of sections":
-- start hours are at most 23, duration hours at most 99, minutes and seconds at most 59; start and duration stay in a
-- record's range). Laws: proofs/TimeReadLaws.antt. Assumes nothing.
use Rattle.std.specs.Prelude.{ℕ, ◌+◌, ◌&&◌, List, leb, length, Option}
use Rattle.std.specs.Bool.{then_some}
use Rattle.eit.specs.Fields.{bytes_at}
use Rattle.eit.specs.Time.{is_time, seconds_of, is_duration_bytes, start_of, is_start_bytes}

-- six BCD digits hhmmss
unfoldable pub time_at : ℕ → ℕ → List ℕ → Option ℕ
time_at hoursMax at bs =
    then_some (leb (at + 3) (length bs) && is_time hoursMax (bytes_at at 3 bs)) (seconds_of (bytes_at at 3 bs))

unfoldable pub duration_at : ℕ → List ℕ → Option ℕ
duration_at at bs =
    then_some (leb (at + 3) (length bs) && is_duration_bytes (bytes_at at 3 bs)) (seconds_of (bytes_at at 3 bs))

-- MJD and six BCD digits, as seconds after t0
unfoldable pub start_at : ℕ → ℕ → List ℕ → Option ℕ
start_at base at bs =
    then_some (leb (at + 5) (length bs) && is_start_bytes base (bytes_at at 5 bs)) (start_of base (bytes_at at 5 bs))
