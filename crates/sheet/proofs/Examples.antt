-- The sheets of the request, computed: every sequence is listed and run by the definition.
use mathlib.Core.Path.{refl}
use mathlib.Core.List.{flat_map}
use Rattle.model.specs.Lists.{sum_before}
use Rattle.model.specs.Records.{covers}
use Rattle.sheet.specs.Sheets.{sequences, ending_in, figures}
use Rattle.sheet.specs.Claims.{Sheet0, Sheet1, Sheet2}

pub sheet_0 : Sheet0
unfolding figures sequences ending_in flat_map covers sum_before
sheet_0 = refl

pub sheet_1 : Sheet1
unfolding figures sequences ending_in flat_map covers sum_before
sheet_1 = refl

pub sheet_2 : Sheet2
unfolding figures sequences ending_in flat_map covers sum_before
sheet_2 = refl
