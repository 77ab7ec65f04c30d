-- Which areas hold a tracker, and what is stored in one.
--
-- "One tracker has one image (layout fixed in docs/, absent parts zero); any other area, too short or long included, is
-- STATE." "A refusal carries no other value .. and alters nothing."
--
-- An area is taken exactly if it is the image of a tracker that keeps the state rule: `Decodes` says so, and is what a reader
-- believes. `decode_of` goes through the tracker that the code reads; that it answers what `Decodes` asks for, and that there is
-- one such answer, is proved (`decodes`, `one-decoding` of proofs/Promises.antt).
use Rattle.std.specs.Prelude.{ℕ, ◌≡◌, Bool, true, false, List, [], ◌∷◌, length, Result, Ok, Err}
use Rattle.panel.specs.Tests.{when◌then◌else◌, ◌and◌, ◌=?◌}
use Rattle.panel.specs.Refusals.{Told, answered, refused}
use Rattle.panel.specs.declared.refusals.Refusal.TheVariants.{State}
use Rattle.gesture.specs.States.{state_rule}
use Rattle.gesture.specs.Trackers.{fresh_tracker}
use Rattle.gesture.specs.declared.record.Tracker.{Tracker}
use Rattle.image.specs.Image.{image_of, image_bytes}
use Rattle.image.specs.Typed.{Typed}
use Rattle.image.specs.code.Whole.{tracker_at}
use Rattle.panel.specs.declared.refusals.Refusal.{Refusal}

unfoldable pub same : List ℕ → List ℕ → Bool
same [] [] = true
same [] (b ∷ bs) = false
same (a ∷ rest) [] = false
same (a ∷ rest) (b ∷ bs) = (a =? b) and same rest bs

-- Decoding.

-- the image of no tracker that keeps the state rule
abbrev pub NoImage : List ℕ → Type 0
NoImage area = (t : Tracker) → Typed t → state_rule t ≡ true → image_of t ≡ area → ⊥

abbrev pub Decodes : List ℕ → Result Tracker Refusal → Type 0
Decodes area (Ok t) = (image_of t ≡ area) × (state_rule t ≡ true)
Decodes area (Err why) = (why ≡ State) × NoImage area

-- an area is the image of the tracker that is read from it
unfoldable pub is_image : List ℕ → Bool
is_image area = same (image_of (tracker_at area)) area

unfoldable pub decode_of : List ℕ → Result Tracker Refusal
decode_of area = when is_image area and state_rule (tracker_at area) then Ok (tracker_at area) else Err State

-- in document 01's numbers: a refusal tells of no tracker, and the fresh one stands for it
unfoldable pub told_decode : Result Tracker Refusal → Told Tracker
told_decode (Ok t) = answered t
told_decode (Err why) = refused why fresh_tracker

-- Storing. What comes back is whether it was refused, and the area.

pub record Stored : Type 0 where
  pub told : Result (Unit {0}) Refusal
  pub area : List ℕ

abbrev pub stored : Result (Unit {0}) Refusal → List ℕ → Stored
stored told area = record { told = told; area = area }

-- the image of a tracker that keeps the state rule, into an area of the image's length
unfoldable pub encode_of : Tracker → List ℕ → Stored
encode_of t area =
    when (length area =? image_bytes) and state_rule t then stored (Ok tt) (image_of t)
    else stored (Err State) area
