use Rattle.air_builder.specs.laws.LabelGrowth.{no_label_asked}
use Rattle.air_folder.proofs.folder.named.ConstraintFolderNamedExtensionBuilder.assert_zero_ext_named.Goals as goal

pub returns-clause-label : goal.returns-clause-label
returns-clause-label g c = no_label_asked c.assert_zero_ext.result c.assert_zero_ext.ensures
