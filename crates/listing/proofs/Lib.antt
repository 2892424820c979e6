-- The laws from page to page.
pub mod PageByPage
