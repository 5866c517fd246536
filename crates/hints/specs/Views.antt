-- A setting is seen as its figures.
use Rattle.hints.specs.Settings.{Figures, Fit}
use Rattle.hints.specs.declared.setting.Setting.TheInside.{Inside}

abbrev pub figures_of : Inside → Figures
figures_of s = record { kind = s.kind; negative = s.negative; first = s.first; second = s.second; shift = s.shift; scale = s.scale }

abbrev pub inside_of : Figures → Inside
inside_of f = record { kind = f.kind; negative = f.negative; first = f.first; second = f.second; shift = f.shift; scale = f.scale }

-- the figures keep their bounds
abbrev pub IsFit : Inside → Type 0
IsFit s = Fit (figures_of s)
