-- `touchcal::floats::from_f32` meets its contract. Assumes nothing.
use Rattle.std.specs.Prelude.{Result, Ok, Err}
use Rattle.std.proofs.Common.{◌≡◌, sym, ap, ◌∙◌, rules}
use Rattle.panel.specs.declared.refusals.Refusal.{Refusal}
use Rattle.panel.specs.declared.refusals.Refusal.TheVariants.{Huge}
use Rattle.calmap.specs.declared.units.Cal.{Cal}
use Rattle.touchcal.specs.Floats.{from_f32_of, steps_of}
use Rattle.touchcal.specs.Solutions.{stepped_of}
use Rattle.touchcal.specs.declared.floats.Coefs.{Coefs}
use Rattle.touchcal.specs.declared.floats.CoefPlace.{CoefPlace}
use Rattle.touchcal.proofs.Reach.{steps-answered, steps-refused}
use Rattle.touchcal.proofs.floats.from_f32.Goals as goal

abbrev or_huge : Result Cal CoefPlace → Result Cal Refusal
or_huge (Ok c) = Ok c
or_huge (Err p) = Err Huge

told : (v : Coefs) (s : Result Cal CoefPlace) → s ≡ stepped_of v → or_huge s ≡ steps_of v
told v (Ok c) e = sym (steps-answered v c (sym e))
told v (Err p) e = sym (steps-refused v p (sym e))

pub returns : goal.returns
unfolding from_f32_of
returns c =
    let is : c.map_err.result ≡ or_huge c.in_steps.result = search rules in
    is ∙ told _ _ c.in_steps.ensures ∙ ap steps_of c.off_identity.ensures
