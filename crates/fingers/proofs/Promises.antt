-- Each public contract leaves no second answer. Assumes nothing.
use Rattle.std.specs.Prelude.{Option}
use mathlib.Core.Path.{◌≡◌}
use mathlib.Core.Bool.{Bool}
use Prim.Native.Nat.{ℕ, ◌-◌}
use Rattle.panel.specs.declared.points.Point.{Point}
use Rattle.panel.proofs.Promises.{one_answer}
use Rattle.fingers.specs.Keys.{key_step}
use Rattle.fingers.specs.Settings.{unset, set_raw, set_grab}
use Rattle.fingers.specs.Fields.{reset, untaken, set_captured, set_direct}
use Rattle.fingers.specs.Holds.{held_still}
use Rattle.fingers.specs.OneFinger.{later_report}
use Rattle.fingers.specs.Releases.{release_of}
use Rattle.fingers.specs.Pairs.{new_pair}
use Rattle.fingers.specs.Several.{multi_from, two_fingers, three_fingers, multi_end}
use Rattle.fingers.specs.declared.gestures.Outcome.{Outcome}
use Rattle.fingers.specs.declared.gestures.Gesture.{Gesture}
use Rattle.fingers.specs.declared.one.One.{One}
use Rattle.fingers.specs.declared.one.App.{App}
use Rattle.fingers.specs.declared.one.OneStep.{OneStep}
use Rattle.fingers.specs.declared.pair.Pair.{Pair}
use Rattle.fingers.specs.declared.settings.Settings.{Settings}
use Rattle.fingers.specs.declared.several.Multi.{Multi}
use Rattle.fingers.specs.declared.several.MultiStep.{MultiStep}

pub key-step-unique : (keys want : ℕ) {r s : Option (Gesture × ℕ)} → r ≡ key_step keys want → s ≡ key_step keys want → r ≡ s
key-step-unique keys want = one_answer

pub elapsed-unique : (now t : ℕ) {r s : ℕ} → r ≡ now - t → s ≡ now - t → r ≡ s
elapsed-unique now t = one_answer

pub reset-unique : (p : Point) {r s : One} → r ≡ reset p → s ≡ reset p → r ≡ s
reset-unique p = one_answer

pub unset-unique : {r s : Settings} → r ≡ unset → s ≡ unset → r ≡ s
unset-unique = one_answer

pub with-raw-unique : (set : Settings) (on : Bool) {r s : Settings} → r ≡ set_raw set on → s ≡ set_raw set on → r ≡ s
with-raw-unique set on = one_answer

pub with-grab-ms-unique : (set : Settings) (ms : ℕ) {r s : Settings} → r ≡ set_grab set ms → s ≡ set_grab set ms → r ≡ s
with-grab-ms-unique set ms = one_answer

pub untaken-unique : {r s : App} → r ≡ untaken → s ≡ untaken → r ≡ s
untaken-unique = one_answer

pub with-capture-unique : (app : App) (raw : Bool) {r s : App} → r ≡ set_captured app raw → s ≡ set_captured app raw → r ≡ s
with-capture-unique app raw = one_answer

pub with-direct-unique : (app : App) {r s : App} → r ≡ set_direct app → s ≡ set_direct app → r ≡ s
with-direct-unique app = one_answer

pub held-still-unique : (o : One) (app : App) (start : Point) (since now : ℕ) (set : Settings) {r s : OneStep} → r ≡ held_still o app start since now set → s ≡ held_still o app start since now set → r ≡ s
held-still-unique o app start since now set = one_answer

pub later-report-unique : (o : One) (app : App) (start : Point) (since : ℕ) (p : Point) (now : ℕ) (set : Settings) {r s : OneStep} → r ≡ later_report o app start since p now set → s ≡ later_report o app start since p now set → r ≡ s
later-report-unique o app start since p now set = one_answer

pub release-unique : (o : One) (app : App) (start : Point) (since now : ℕ) {r s : Outcome} → r ≡ release_of o app start since now → s ≡ release_of o app start since now → r ≡ s
release-unique o app start since now = one_answer

pub new-pair-unique : (p q c : Point) {r s : Pair} → r ≡ new_pair p q c → s ≡ new_pair p q c → r ≡ s
new-pair-unique p q c = one_answer

pub multi-from-unique : (n : ℕ) (c : Point) (now : ℕ) {r s : Multi} → r ≡ multi_from n c now → s ≡ multi_from n c now → r ≡ s
multi-from-unique n c now = one_answer

pub two-fingers-unique : (pair : Option Pair) (m : Multi) (p q c : Point) (now : ℕ) {r s : MultiStep} → r ≡ two_fingers pair m p q c now → s ≡ two_fingers pair m p q c now → r ≡ s
two-fingers-unique pair m p q c now = one_answer

pub three-fingers-unique : (pair : Option Pair) (m : Multi) (n : ℕ) (c : Point) (now : ℕ) {r s : MultiStep} → r ≡ three_fingers pair m n c now → s ≡ three_fingers pair m n c now → r ≡ s
three-fingers-unique pair m n c now = one_answer

pub multi-end-unique : (m : Multi) (pair : Option Pair) {r s : Outcome} → r ≡ multi_end m pair → s ≡ multi_end m pair → r ≡ s
multi-end-unique m pair = one_answer
