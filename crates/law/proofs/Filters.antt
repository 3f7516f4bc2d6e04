-- Where every next has the same filter, that is the one that passes.
use Rattle.std.proofs.Common.{[], ◌∷◌, ◌∙◌, inl, inr}
use Rattle.law.specs.Transcripts.{Opened, Gave, Ended, Marked, Raised, Besides}
use Rattle.law.specs.Rules.{World}
use Rattle.law.specs.Law.{OneFilter}

pub one_filter : {O K : Type 0} (W : World O K) → OneFilter W
one_filter W w [] a v t q x = absurd x
one_filter W w (Opened o ∷ h) a v t q x = absurd x
one_filter W w (Gave u m p s ∷ h) a v t q (inl x) = one_filter W w h a.1 v t q x
one_filter W w (Gave u m p s ∷ h) a v t q (inr x) = x.2 ∙ a.0
one_filter W w (Ended u m ∷ h) a v t q (inl x) = one_filter W w h a.1 v t q x
one_filter W w (Ended u m ∷ h) a v t q (inr x) = x.1 ∙ a.0
one_filter W w (Marked ∷ h) a v t q x = one_filter W w h a v t q x
one_filter W w (Raised u ∷ h) a v t q x = one_filter W w h a v t q x
one_filter W w (Besides b ∷ h) a v t q x = one_filter W w h a v t q x
