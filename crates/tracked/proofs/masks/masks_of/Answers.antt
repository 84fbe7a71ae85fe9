use Rattle.tracked.proofs.Rows.{masks_in, masks_tell}
use Rattle.tracked.proofs.masks.masks_of.Goals as goal

pub returns : goal.returns
unfolding masks_in
returns c =
    rw (c.mask_at.ensures, c.mask_at-2.ensures, c.mask_at-3.ensures, c.mask_at-4.ensures, c.mask_at-5.ensures, c.from.ensures, c.from-2.ensures) (masks_tell c.args.kind c.args.side c.requires)
