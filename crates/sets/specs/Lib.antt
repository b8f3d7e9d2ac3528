pub mod Masks
pub mod BitLaws
pub mod MaskLaws
