-- `image::touches::put_touch` meets its contract. Assumes nothing.
use Rattle.image.proofs.Absent.{idle-put, down-put, no-pair-yet, multi-put, residual-put}
use Rattle.image.proofs.touches.put_touch.Goals as goal

pub put_pairing-requires : goal.put_pairing-requires
put_pairing-requires c =
    no-pair-yet c.args.touch _ c.requires _ _ _ c.put1-in-Multi.ensures c.put_multi.ensures

pub returns-in-Idle : goal.returns-in-Idle
returns-in-Idle c = idle-put _ _ c.requires c.in-Idle.is

pub returns-in-Down : goal.returns-in-Down
returns-in-Down c =
    down-put _ _ c.requires _ _ _ _ c.in-Down.is c.put1.ensures c.put_down.ensures

pub returns-in-Multi : goal.returns-in-Multi
returns-in-Multi c =
    multi-put _ _ c.requires _ _ _ c.put1-in-Multi.ensures c.put_multi.ensures _ _ c.in-Multi.is c.put_pairing.ensures

pub returns-in-Residual : goal.returns-in-Residual
returns-in-Residual c =
    residual-put _ _ c.requires _ c.in-Residual.is c.put1-in-Residual.ensures
