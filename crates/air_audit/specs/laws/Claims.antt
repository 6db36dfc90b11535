-- Laws of vanishing constraints, for the proof of a claim.
pub use Rattle.air_gadgets.specs.laws.Vanishing.{both_vanish, one_vanishes}
pub use Rattle.air_report.specs.laws.VanishingChecks.{kept_vanish, plain_vanish, report_vanish}
pub use Rattle.air_report.specs.laws.VanishingReports.{all_vanish, none_reported}
pub use Rattle.air_gadgets.specs.laws.VanishingBits.{bits_below, bits_of_word}
pub use Rattle.air_gadgets.specs.laws.VanishingSums.{adds_up, adds_up_3}
