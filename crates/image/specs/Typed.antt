-- What a tracker and an area of the code have by their types, and no rule has to say: bytes are 8 bits, places and spans
-- 16, times 64.
use Rattle.std.specs.Prelude.{ℕ, ◌^◌, ◌<◌, List, get_or, Option, Some, None}
use Rattle.panel.specs.declared.points.Point.{Point}
use Rattle.fingers.specs.declared.one.One.{One}
use Rattle.fingers.specs.declared.keys.Keys.{Keys}
use Rattle.fingers.specs.declared.settings.Settings.{Settings}
use Rattle.fingers.specs.declared.several.Multi.{Multi}
use Rattle.fingers.specs.declared.pair.Pair.{Pair}
use Rattle.image.specs.Rows.{Fits}
use Rattle.image.specs.Image.{setting_rows}
use Rattle.gesture.specs.declared.record.Touch.{Touch}
use Rattle.gesture.specs.declared.record.Touch.TheVariants as touch
use Rattle.gesture.specs.declared.record.Tracker.{Tracker}

abbrev pub Byte : ℕ → Type 0
Byte n = n < 2 ^ 8

abbrev pub Half : ℕ → Type 0
Half n = n < 2 ^ 16

abbrev pub Time : ℕ → Type 0
Time n = n < 2 ^ 64

abbrev pub Bytes : List ℕ → Type 0
Bytes area = (k : ℕ) → Byte (get_or area k 0)

abbrev pub TypedPoint : Point → Type 0
TypedPoint p = Half p.x × Half p.y

abbrev pub TypedMulti : Multi → Type 0
TypedMulti m = Byte m.n × TypedPoint m.c0 × Time m.t0 × TypedPoint m.c1 × Time m.t1

abbrev pub TypedPair : Pair → Type 0
TypedPair r = TypedPoint r.a × TypedPoint r.b × Half r.span0 × TypedPoint r.c0 × Byte r.state

abbrev pub TypedPairing : Option Pair → Type 0
TypedPairing None = Unit {0}
TypedPairing (Some r) = TypedPair r

abbrev pub TypedTouch : Touch → Type 0
TypedTouch touch.Idle = Unit {0}
TypedTouch (touch.Down start since) = TypedPoint start × Time since
TypedTouch (touch.Multi m pair) = TypedMulti m × TypedPairing pair
TypedTouch touch.Residual = Unit {0}

abbrev pub TypedOne : One → Type 0
TypedOne o = TypedPoint o.last × Half o.far

abbrev pub TypedEnd : Option ℕ → Type 0
TypedEnd None = Unit {0}
TypedEnd (Some end) = Time end

abbrev pub TypedKeys : Keys → Type 0
TypedKeys keys = Byte keys.told × Byte keys.wanted

-- each as wide as its row
abbrev pub TypedSettings : Settings → Type 0
TypedSettings settings = Fits (setting_rows settings)

pub record Typed (t : Tracker) : Type 0 where
  pub touching : TypedTouch t.touch
  pub finger : TypedOne t.one
  pub ended : TypedEnd t.multi_end
  pub keying : TypedKeys t.keys
  pub setting : TypedSettings t.settings
